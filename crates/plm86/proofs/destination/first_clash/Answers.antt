use Rattle.plm86.proofs.Streams.{keeps}
use Rattle.plm86.proofs.destination.first_clash.Goals as goal

pub returns-clause-streams : goal.returns-clause-streams
returns-clause-streams c = keeps c.args.files.now c.args.written c.earliest_clash.result c.earliest_clash.ensures.none
