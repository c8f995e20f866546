use Rattle.std.proofs.Common.{◌≡◌}
use Rattle.plm_type.specs.Inner.Turned.{operations_of, turned_first}
use Rattle.plm_type.proofs.numbers.+turn.Given as goal

abbrev pub invariant-all_as_integer-loop-operation : goal.invariant-all_as_integer-loop-operation
invariant-all_as_integer-loop-operation l = goal.unvisited-all_as_integer-loop-operation l × (operations_of l.operation-items ≡ turned_first l.operation-index (operations_of l.initial.operation-items))
