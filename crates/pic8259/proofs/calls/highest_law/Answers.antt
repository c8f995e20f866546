use Rattle.pic8259.proofs.Priority.{highest_is, none_passes}
use Rattle.pic8259.proofs.calls.highest_law.Goals as goal

pub returns-clause-some : goal.returns-clause-some
returns-clause-some c = highest_is

pub returns-clause-none : goal.returns-clause-none
returns-clause-none c = none_passes
