use Rattle.std.proofs.Common.{◌<◌, length, sym, ap, ◌∙◌, arith}
use Rattle.std.proofs.lemmas.List.{length-set, get_or-set_other}
use Rattle.std.specs.Global.{Box}
use Rattle.plm_type.specs.declared.program.Expression.{Expression}
use Rattle.plm_type.specs.Types.{with_sign}
use Rattle.plm_type.specs.Numbers.{integer_of}
use Rattle.plm_type.specs.View.{expression_of}
use Rattle.plm_type.specs.Inner.Turned.{operations_of, all_turned}
use Rattle.plm_type.proofs.Turning.{turn_at, turned_whole, alike, turned_chain}
use Rattle.plm_type.proofs.numbers.+turn.Goals as goal

pub all_as_integer-loop-operation-preserved : goal.all_as_integer-loop-operation-preserved
all_as_integer-loop-operation-preserved t c =
    let inv = c.loop-operation.invariant in
    let xs = c.loop-operation.operation-items in
    let ys = c.args.operations.now in
    let n = c.loop-operation.operation-index in
    let within : n < length ys = c.loop-operation-test.true in
    let same = inv.0.1 n c.operation-item.result (omega arith) in (
      (
        length-set xs n _ ∙ inv.0.0,
        λ k d le. get_or-set_other xs n k _ d (λ e. omega (arith, le, e)) ∙ inv.0.1 k d (omega (arith, le)),
      ),
      turn_at xs ys n c.operation-item.result _ within inv.1 (alike _ _ _ _ _ _ (ap (λ o. o.line) same) (c.with_sign-operation.ensures ∙ ap (λ o. with_sign o.operation) same) (c.as_integer.ensures ∙ ap (λ o. integer_of (expression_of o.operand)) same)),
    )

pub all_as_integer-returns : goal.all_as_integer-returns
all_as_integer-returns t c =
    let inv = c.loop-operation.invariant in
    inv.1 ∙ turned_whole c.args.operations.now c.loop-operation.operation-index (omega (arith, c.loop-operation-test.false, c.loop-operation.auto.operation-index-end))

pub as_integer-returns-in-Chain : goal.as_integer-returns-in-Chain
as_integer-returns-in-Chain t c =
    turned_chain c.as_integer-in-Chain.new.e c.in-Chain.first.value _ c.in-Chain.others c.all_as_integer.new.operations c.in-Chain.others-is (omega arith)
    (c.as_integer-in-Chain.ensures ∙ ap (λ e. integer_of (expression_of e)) c.deref_mut-in-Chain.ensures.value ∙ ap (λ (b : Box Expression). integer_of (expression_of b.value)) c.in-Chain.first-is)
    (c.all_as_integer.ensures ∙ ap (λ os. all_turned (operations_of os)) c.deref_mut-in-Chain-2.ensures.value)
    ∙ sym (ap integer_of (ap expression_of c.in-Chain.is))
