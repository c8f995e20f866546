use Rattle.std.proofs.Common.{◌≡◌, ◌++◌, ℕ, OnOk, map, vec_items, drop, ap, subst, sym, ◌∙◌, arith}
use Rattle.plm_type.specs.Rest.{Block, While, Case, Iterate}
use Rattle.plm_type.specs.View.{statement_of, statements_of, expression_of, loop_of, procedures_of}
use Rattle.lower.specs.Statements.{statement_code, statements_code, cases_code, are_silent}
use Rattle.lower.specs.Inner.Statements.{branching}
use Rattle.lower.proofs.Turned.{turned}
use Rattle.lower.proofs.statements.Around.+statements.Goals as goal

pub statement-returns-in-Block-clause-code : goal.statement-returns-in-Block-clause-code
statement-returns-in-Block-clause-code t c =
    let ps = procedures_of c.args.self.callees.procedures.now in
    let is = ap (λ ss. Block (statements_of ss)) c.deref-in-Block.ensures.value ∙ sym (ap statement_of c.in-Block.is ∙ c.trees_have_their_lists.ensures.block c.in-Block.body) in
    subst (λ s. OnOk c.statements.result (c.statements.new.code.items ≡ c.args.code.now.items ++ statement_code ps c.args.self.kind c.args.exit s)) is c.statements.ensures.code

pub statement-returns-in-While-clause-code : goal.statement-returns-in-While-clause-code
statement-returns-in-While-clause-code t c =
    let ps = procedures_of c.args.self.callees.procedures.now in
    let e = expression_of c.in-While.condition in
    let is = ap (λ ss. While e e (statements_of ss)) c.deref-in-While.ensures.value ∙ sym (ap statement_of c.in-While.is ∙ c.trees_have_their_lists.ensures.while_true c.in-While.condition c.in-While.body) in
    subst (λ s. OnOk c.while_loop.result (c.while_loop.new.code.items ≡ c.args.code.now.items ++ statement_code ps c.args.self.kind c.args.exit s)) is c.while_loop.ensures.code

pub statement-returns-in-Case-clause-code : goal.statement-returns-in-Case-clause-code
statement-returns-in-Case-clause-code t c =
    let ps = procedures_of c.args.self.callees.procedures.now in
    let e = expression_of c.in-Case.value in
    let is = ap (λ ss. Case e (statements_of ss)) c.deref-in-Case.ensures.value ∙ sym (ap statement_of c.in-Case.is ∙ c.trees_have_their_lists.ensures.case_of c.in-Case.value c.in-Case.cases) in
    subst (λ s. OnOk c.case.result (c.case.new.code.items ≡ c.args.code.now.items ++ statement_code ps c.args.self.kind c.args.exit s)) is c.case.ensures.code

pub statement-returns-in-Iterate-clause-code : goal.statement-returns-in-Iterate-clause-code
statement-returns-in-Iterate-clause-code t c =
    let ps = procedures_of c.args.self.callees.procedures.now in
    let is = ap (λ l. Iterate (expression_of c.in-Iterate.first) (loop_of l)) c.deref-in-Iterate.ensures ∙ sym (ap statement_of c.in-Iterate.is ∙ c.trees_have_their_lists.ensures.iterate c.in-Iterate.first c.in-Iterate.rounds) in
    subst (λ s. OnOk c.iterate.result (c.iterate.new.code.items ≡ c.args.code.now.items ++ statement_code ps c.args.self.kind c.args.exit s)) is c.iterate.ensures.code

pub statement-returns-in_ok-otherwise-in-If-clause-code : goal.statement-returns-in_ok-otherwise-in-If-clause-code
statement-returns-in_ok-otherwise-in-If-clause-code t c =
    let ps = procedures_of c.args.self.callees.procedures.now in
    let kind = c.args.self.kind in
    let exit = c.args.exit in
    let e = expression_of c.in-If.condition in
    let arm = statements_of c.in-If.arm.items in
    let silent : c.are_silent.result ≡ are_silent (statements_of c.in-If.other.items) = c.are_silent.ensures ∙ ap (λ ss. are_silent (statements_of ss)) c.deref-in-If-3.ensures.value in
    let otherwise = c.deref-in-If-4.ensures.value ∙ c.in_ok-otherwise-in-If.ensures.code ∙ ap (λ ss. statements_code ps kind exit (statements_of ss)) c.deref-in-If.ensures.value in
    subst (λ x. OnOk c.branch-self.result (c.branch-self.new.code.items ≡ c.args.code.now.items ++ x))
    (ap (λ ss. branching ps kind e (statements_of ss) c.are_silent.result c.deref-in-If-4.result.now exit) c.deref-in-If-2.ensures.value
    ∙ ap (λ b. branching ps kind e arm b c.deref-in-If-4.result.now exit) silent
    ∙ ap (λ o. branching ps kind e arm (are_silent (statements_of c.in-If.other.items)) o exit) otherwise
    ∙ sym (ap (statement_code ps kind exit) (ap statement_of c.in-If.is ∙ c.trees_have_their_lists.ensures.if_else c.in-If.condition c.in-If.arm c.in-If.other)))
    c.branch-self.ensures.code

pub each_case-returns-clause-code : goal.each_case-returns-clause-code
each_case-returns-clause-code t c =
    let at : c.loop-k.k ≡ 0 = omega (arith, c.loop-k-test.false) in
    let codes = λ (n : ℕ). cases_code (procedures_of c.args.self.callees.procedures.now) c.args.self.kind c.args.exit (statements_of (drop n c.args.cases.now)) in
    ap (map vec_items) c.reverse.ensures.items ∙ turned vec_items c.loop-k.codes.items (codes c.loop-k.k) c.loop-k.invariant.coded ∙ ap codes at
