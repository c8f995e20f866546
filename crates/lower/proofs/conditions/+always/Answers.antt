use Rattle.std.proofs.Common.{◌≡◌, ◌≤◌, length, ap, sym, ◌∙◌, arith}
use Rattle.plm_type.specs.View.{expression_of}
use Rattle.lower.specs.Conditions.{always}
use Rattle.lower.proofs.Trees.{chain_none, chain_tested}
use Rattle.lower.proofs.conditions.+always.Goals as goal

pub returns-in-empty : goal.returns-in-empty
returns-in-empty t c =
    let none : length c.in-Chain.others.items ≡ 0 = omega (arith, ap length c.as_slice.ensures.value, c.in-empty.len_below) in
    let left = expression_of c.in-Chain.first.value in
    let is : expression_of c.args.tree.now ≡ left = ap expression_of c.in-Chain.is ∙ c.trees_have_their_lists.ensures.chain c.in-Chain.first c.in-Chain.others ∙ chain_none left c.in-Chain.others.items none in
    c.always.ensures ∙ ap (λ e. always (expression_of e)) c.deref.ensures ∙ sym (ap always is)

pub returns-in-len1-up : goal.returns-in-len1-up
returns-in-len1-up t c =
    let some : 1 ≤ length c.in-Chain.others.items = omega (arith, ap length c.as_slice.ensures.value, c.in-len1-up.len_at_least) in
    let left = expression_of c.in-Chain.first.value in
    sym (ap always (ap expression_of c.in-Chain.is ∙ c.trees_have_their_lists.ensures.chain c.in-Chain.first c.in-Chain.others) ∙ chain_tested left c.in-Chain.others.items some)
