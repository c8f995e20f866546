use Rattle.std.proofs.Common.{◌≡◌, ◌++◌, drop}
use Rattle.plm_type.specs.Calls as spec
use Rattle.plm_type.specs.Inner.Calls as inner
use Rattle.plm_type.specs.View as view
use Rattle.plm_type.proofs.calls.+calls.Given as goal

abbrev pub invariant-add_arguments-loop-argument : goal.invariant-add_arguments-loop-argument
invariant-add_arguments-loop-argument l = l.called.items ++ spec.argument_calls (view.expressions_of (drop l.argument-index l.arguments)) ≡ l.initial.called.items ++ spec.argument_calls (view.expressions_of l.arguments)

abbrev pub invariant-add_operations-loop-operation : goal.invariant-add_operations-loop-operation
invariant-add_operations-loop-operation l = l.called.items ++ inner.operation_calls (drop l.operation-index l.operations) ≡ l.initial.called.items ++ inner.operation_calls l.operations

abbrev pub invariant-add_reference-loop-subscript : goal.invariant-add_reference-loop-subscript
invariant-add_reference-loop-subscript l = l.called.items ++ spec.subscript_calls (view.subscripts_of (drop l.subscript-index l.subscript-items)) ≡ l.initial.called.items ++ spec.reference_calls (view.reference_of l.reference)
