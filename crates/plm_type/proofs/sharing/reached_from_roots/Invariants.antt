use Rattle.std.proofs.Common.{drop}
use Rattle.plm_type.specs.Inner.Reach.{rows, marks_of}
use Rattle.plm_type.specs.Sharing.{roots, handlers_from}
use Rattle.plm_type.proofs.MarkedTwice.{Marked}
use Rattle.plm_type.proofs.sharing.reached_from_roots.Given as goal

abbrev pub invariant-loop-number : goal.invariant-loop-number
invariant-loop-number l = Marked (rows l.graph) (roots l.program) (handlers_from l.number (drop l.number l.program.names.procedures.items)) (marks_of l.roots.items)
