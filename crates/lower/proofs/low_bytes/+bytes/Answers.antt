use Rattle.std.proofs.Common.{◌≡◌, [], drop, ap, sym, ◌∙◌, arith}
use Rattle.std.proofs.lemmas.List.{drop_all}
use Rattle.plm_type.specs.View.{expression_of}
use Rattle.lower.specs.LowBytes.{is_byte}
use Rattle.lower.specs.Inner.LowBytes.{bytes_from}
use Rattle.lower.proofs.LowTrees.{chain_bytes}
use Rattle.lower.proofs.low_bytes.+bytes.Goals as goal

pub operators_give-returns : goal.operators_give-returns
operators_give-returns t c =
    let os = c.args.operations.now in
    let k = c.loop-operation.operation-index in
    let none : drop k os ≡ [] = drop_all k os (omega (arith, c.loop-operation-test.false)) in
    sym (ap (bytes_from c.loop-operation.byte) none) ∙ c.loop-operation.invariant

pub is_byte-returns-in-Chain : goal.is_byte-returns-in-Chain
is_byte-returns-in-Chain t c =
    let e = expression_of c.in-Chain.first.value in
    let os = c.deref-in-Chain.result.now in
    c.operators_give.ensures
    ∙ ap (λ b. bytes_from b os) (c.is_byte.ensures ∙ ap (λ y. is_byte (expression_of y)) c.deref.ensures)
    ∙ ap (bytes_from (is_byte e)) c.deref-in-Chain.ensures.value
    ∙ sym (chain_bytes e c.in-Chain.operations.items)
    ∙ sym (ap is_byte (ap expression_of c.in-Chain.is ∙ c.trees_have_their_lists.ensures.chain c.in-Chain.first c.in-Chain.operations))
