use Rattle.std.proofs.Common.{arith, ◌∙◌}
use Rattle.std.specs.Prelude.{Some}
use Rattle.pit8253.proofs.Phases.{count_early}
use Rattle.pit8253.proofs.cycle.Cycle.count.Goals as goal

pub returns : goal.returns
returns c = c.count_at.ensures ∙ count_early c.args.self.now.waveform c.args.self.now.period c.args.self.now.pulses (Some c.args.self.now.next) (omega arith) (omega arith)
