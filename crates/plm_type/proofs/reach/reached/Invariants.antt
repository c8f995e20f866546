use Rattle.std.proofs.Common.{◌+◌, not, count_by, length}
use Rattle.plm_type.specs.Inner.Reach.{rows}
use Rattle.plm_type.proofs.Exploring.{Explored}
use Rattle.plm_type.proofs.reach.reached.Given as goal

abbrev pub invariant-loop-procedure : goal.invariant-loop-procedure
invariant-loop-procedure l = Explored (rows l.graph) l.first l.marks.items l.work.items

abbrev pub decreases-loop-procedure : goal.decreases-loop-procedure
decreases-loop-procedure l = count_by not l.marks.items + length l.work.items
