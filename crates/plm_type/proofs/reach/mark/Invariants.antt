use Rattle.std.proofs.Common.{take}
use Rattle.plm_type.specs.Inner.Reach.{Marks}
use Rattle.plm_type.proofs.reach.mark.Given as goal

abbrev pub invariant-loop-procedure : goal.invariant-loop-procedure
invariant-loop-procedure l = Marks l.initial.marks.items l.marks.items l.initial.work.items l.work.items (take l.procedure-index l.next)
