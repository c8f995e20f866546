use Rattle.std.proofs.Common.{◌≡◌, ◌++◌, drop}
use Rattle.plm_decl.specs.ResolvedView as resolved
use Rattle.plm_type.specs.Effects as spec
use Rattle.plm_type.specs.Inner.Effects as inner
use Rattle.plm_type.proofs.effects.+effects.Given as goal

abbrev pub invariant-add_operations-loop-operation : goal.invariant-add_operations-loop-operation
invariant-add_operations-loop-operation l = l.effects.items ++ inner.of_operations (drop l.operation-index l.operations) ≡ l.initial.effects.items ++ inner.of_operations l.operations

abbrev pub invariant-add_list-loop-e : goal.invariant-add_list-loop-e
invariant-add_list-loop-e l = l.effects.items ++ spec.of_list (resolved.expressions_of (drop l.e-index l.es)) ≡ l.initial.effects.items ++ spec.of_list (resolved.expressions_of l.es)
