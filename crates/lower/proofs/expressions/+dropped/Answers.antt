use Rattle.std.proofs.Common.{◌≡◌, ◌≤◌, ◌++◌, OnOk, length, ap, subst, sym, ◌∙◌, arith}
use Rattle.std.proofs.lemmas.Grind.{common_steps}
use Rattle.plm_type.specs.View.{expression_of, procedures_of}
use Rattle.lower.specs.Expressions.{expression_code, dropped_code}
use Rattle.lower.proofs.Trees.{chain_none, chain_dropped}
use Rattle.lower.proofs.expressions.+dropped.Goals as goal

pub returns-in-Call-clause-code : goal.returns-in-Call-clause-code
returns-in-Call-clause-code t c =
    let after = c.call in
    subst (λ e. OnOk after.result (after.new.code.items ≡ c.args.code.now.items ++ dropped_code (procedures_of c.args.callees.procedures.now) e))
    (sym (ap expression_of c.in-Call.is ∙ c.trees_have_their_lists.ensures.call c.in-Call.number c.in-Call.arguments)) (grind (arith, common_steps))

pub returns-in-empty-clause-code : goal.returns-in-empty-clause-code
returns-in-empty-clause-code t c =
    let after = c.dropped in
    let left = expression_of c.in-Chain.first.value in
    let none : length c.in-Chain.operations.items ≡ 0 = omega (arith, ap length c.as_slice.ensures.value, c.in-empty.len_below) in
    let is : expression_of c.args.tree.now ≡ left = ap expression_of c.in-Chain.is ∙ c.trees_have_their_lists.ensures.chain c.in-Chain.first c.in-Chain.operations ∙ chain_none left c.in-Chain.operations.items none in
    subst (λ e. OnOk after.result (after.new.code.items ≡ c.args.code.now.items ++ dropped_code (procedures_of c.args.callees.procedures.now) e))
    (ap expression_of c.deref-in-empty.ensures ∙ sym is) after.ensures.code

pub returns-in-len1-up-clause-code : goal.returns-in-len1-up-clause-code
returns-in-len1-up-clause-code t c =
    let after = c.expression in
    let ps = procedures_of c.args.callees.procedures.now in
    let left = expression_of c.in-Chain.first.value in
    let os = c.in-Chain.operations.items in
    let some : 1 ≤ length os = omega (arith, ap length c.as_slice.ensures.value, c.in-len1-up.len_at_least) in
    let tree = ap expression_of c.in-Chain.is ∙ c.trees_have_their_lists.ensures.chain c.in-Chain.first c.in-Chain.operations in
    let is = ap (dropped_code ps) tree ∙ chain_dropped ps left os some ∙ sym (ap (expression_code ps) tree) in
    subst (λ e. OnOk after.result (after.new.code.items ≡ c.args.code.now.items ++ e)) (sym is) after.ensures.code
