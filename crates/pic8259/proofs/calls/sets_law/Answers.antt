use Rattle.pic8259.proofs.Sets.{has-with, has-without}
use Rattle.pic8259.proofs.calls.sets_law.Goals as goal

pub returns-clause-more : goal.returns-clause-more
returns-clause-more c = has-with

pub returns-clause-less : goal.returns-clause-less
returns-clause-less c = has-without
