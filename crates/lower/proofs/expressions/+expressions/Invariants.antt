use Rattle.std.proofs.Common.{◌≡◌, ◌++◌, drop}
use Rattle.plm_type.specs.View.{expressions_of, subscripts_of, procedures_of}
use Rattle.lower.specs.Expressions.{pushed_code, further_code}
use Rattle.lower.specs.Inner.Expressions.{chain_value, chain_code}
use Rattle.lower.proofs.expressions.+expressions.Given as goal

abbrev pub invariant-chain-loop-operation : goal.invariant-chain-loop-operation
invariant-chain-loop-operation l =
    let ps = procedures_of l.callees.procedures.now in
    record {
      coded : l.code.items ++ chain_code ps l.value (drop l.operation-index l.operations) ≡ l.initial.code.items ++ chain_code ps l.fn.left l.operations;
      found : chain_value l.value (drop l.operation-index l.operations) ≡ chain_value l.fn.left l.operations;
    }

abbrev pub invariant-push_all-loop-argument : goal.invariant-push_all-loop-argument
invariant-push_all-loop-argument l =
    let ps = procedures_of l.callees.procedures.now in
    l.code.items ++ pushed_code ps (expressions_of (drop l.argument-index l.arguments)) ≡ l.initial.code.items ++ pushed_code ps (expressions_of l.arguments)

abbrev pub invariant-subscripts-loop-subscript : goal.invariant-subscripts-loop-subscript
invariant-subscripts-loop-subscript l =
    let ps = procedures_of l.callees.procedures.now in
    l.code.items ++ further_code ps (subscripts_of (drop l.subscript-index l.more)) ≡ l.initial.code.items ++ further_code ps (subscripts_of l.more)
