use Rattle.std.proofs.Common.{◌≡◌, ◌++◌, ◌-◌, OnOk, IfOk, Some, None, length, take, ap, subst, sym, ◌∙◌, arith}
use Rattle.plm_type.specs.Rest.{Expression}
use Rattle.plm_type.specs.View.{expression_of, chained, procedures_of}
use Rattle.lower.specs.Expressions.{operand_of, relation_of}
use Rattle.lower.specs.Conditions.{are_bytes, named, unless_named, compared_by, comparison_code, condition_code, test_of}
use Rattle.lower.specs.LowBytes.{low_code}
use Rattle.lower.proofs.Trees.{chain_none}
use Rattle.lower.proofs.Outermost.{chain_split, relation_coded, relation_tested, value_coded, value_tested}
use Rattle.lower.proofs.conditions.+condition.Goals as goal

pub returns-in-empty-clause-code : goal.returns-in-empty-clause-code
returns-in-empty-clause-code t c =
    let after = c.condition in
    let left = expression_of c.in-Chain.first.value in
    let none : length c.in-Chain.operations.items ≡ 0 = omega (arith, ap length c.as_slice.ensures.value, c.in-empty.len_below) in
    let is : expression_of c.args.tree.now ≡ left = ap expression_of c.in-Chain.is ∙ c.trees_have_their_lists.ensures.chain c.in-Chain.first c.in-Chain.operations ∙ chain_none left c.in-Chain.operations.items none in
    subst (λ e. OnOk after.result (after.new.code.items ≡ c.args.code.now.items ++ condition_code (procedures_of c.args.callees.procedures.now) e))
    (ap expression_of c.deref.ensures ∙ sym is) after.ensures.code

pub returns-in-empty-clause-test : goal.returns-in-empty-clause-test
returns-in-empty-clause-test t c =
    let left = expression_of c.in-Chain.first.value in
    let none : length c.in-Chain.operations.items ≡ 0 = omega (arith, ap length c.as_slice.ensures.value, c.in-empty.len_below) in
    let is : expression_of c.args.tree.now ≡ left = ap expression_of c.in-Chain.is ∙ c.trees_have_their_lists.ensures.chain c.in-Chain.first c.in-Chain.operations ∙ chain_none left c.in-Chain.operations.items none in
    subst (λ e. IfOk c.condition.result (λ x. x ≡ test_of e)) (ap expression_of c.deref.ensures ∙ sym is) c.condition.ensures.test

pub returns-in-Some-clause-code : goal.returns-in-Some-clause-code
returns-in-Some-clause-code t c =
    let ps = procedures_of c.args.callees.procedures.now in
    let os = c.as_slice.result.now in
    let o = c.last-item.result in
    let others = take (length os - 1) os in
    let left = expression_of c.in-Chain.first.value in
    let is = ap expression_of c.in-Chain.is ∙ chain_split c.in-Chain.first c.in-Chain.operations os o (c.trees_have_their_lists.ensures.chain c.in-Chain.first c.in-Chain.operations) c.as_slice.ensures.value c.in-len1-up.len_at_least c.last-item.is in
    let asks : relation_of o.operation ≡ Some c.in-Some.relation = sym c.relation.ensures ∙ c.in-Some.is in
    let after = c.comparison in
    let right = expression_of o.operand in
    let r = c.in-Some.relation in
    let coded = λ (l : Expression). unless_named (named (are_bytes (chained l others) right) r (operand_of (chained l others)) (operand_of right)) (comparison_code ps (chained l others) right) in
    subst (λ x. OnOk after.result (after.new.code.items ≡ c.args.code.now.items ++ x))
    (ap coded (ap expression_of c.deref-in-Some.ensures) ∙ sym (ap (condition_code ps) is ∙ relation_coded ps left others o r asks)) after.ensures.code

pub returns-in-Some-clause-test : goal.returns-in-Some-clause-test
returns-in-Some-clause-test t c =
    let os = c.as_slice.result.now in
    let o = c.last-item.result in
    let others = take (length os - 1) os in
    let left = expression_of c.in-Chain.first.value in
    let is = ap expression_of c.in-Chain.is ∙ chain_split c.in-Chain.first c.in-Chain.operations os o (c.trees_have_their_lists.ensures.chain c.in-Chain.first c.in-Chain.operations) c.as_slice.ensures.value c.in-len1-up.len_at_least c.last-item.is in
    let asks : relation_of o.operation ≡ Some c.in-Some.relation = sym c.relation.ensures ∙ c.in-Some.is in
    let right = expression_of o.operand in
    let r = c.in-Some.relation in
    let tested = λ (l : Expression). compared_by (are_bytes (chained l others) right) r (operand_of (chained l others)) (operand_of right) in
    subst (λ x. IfOk c.comparison.result (λ t. t ≡ x)) (ap tested (ap expression_of c.deref-in-Some.ensures) ∙ sym (ap test_of is ∙ relation_tested left others o r asks)) c.comparison.ensures.test

pub returns-in_ok-low-in-None-clause-code : goal.returns-in_ok-low-in-None-clause-code
returns-in_ok-low-in-None-clause-code t c =
    let ps = procedures_of c.args.callees.procedures.now in
    let os = c.as_slice.result.now in
    let o = c.last-item.result in
    let others = take (length os - 1) os in
    let left = expression_of c.in-Chain.first.value in
    let is = ap expression_of c.in-Chain.is ∙ chain_split c.in-Chain.first c.in-Chain.operations os o (c.trees_have_their_lists.ensures.chain c.in-Chain.first c.in-Chain.operations) c.as_slice.ensures.value c.in-len1-up.len_at_least c.last-item.is in
    let asks : relation_of o.operation ≡ None = sym c.relation.ensures ∙ c.in-None.is in
    c.in_ok-low-in-None.ensures.code
    ∙ ap (λ x. c.args.code.now.items ++ x) (sym (ap (condition_code ps) is ∙ value_coded ps left others o asks ∙ sym (ap (low_code ps) is)))

pub returns-in_ok-low-in-None-clause-test : goal.returns-in_ok-low-in-None-clause-test
returns-in_ok-low-in-None-clause-test t c =
    let os = c.as_slice.result.now in
    let o = c.last-item.result in
    let others = take (length os - 1) os in
    let left = expression_of c.in-Chain.first.value in
    let is = ap expression_of c.in-Chain.is ∙ chain_split c.in-Chain.first c.in-Chain.operations os o (c.trees_have_their_lists.ensures.chain c.in-Chain.first c.in-Chain.operations) c.as_slice.ensures.value c.in-len1-up.len_at_least c.last-item.is in
    let asks : relation_of o.operation ≡ None = sym c.relation.ensures ∙ c.in-None.is in
    sym (ap test_of is ∙ value_tested left others o asks)
