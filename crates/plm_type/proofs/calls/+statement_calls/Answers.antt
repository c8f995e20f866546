use Rattle.std.proofs.Common.{◌≡◌, ℕ, ◌+◌, ◌++◌, OnOk, List, drop, append_assoc, subst, sym, ap, ◌∙◌}
use Rattle.std.specs.Global.{Box}
use Rattle.plm_type.specs.declared.program.Statement.{Statement}
use Rattle.plm_type.specs.Calls as spec
use Rattle.plm_type.specs.Rest as rest
use Rattle.plm_type.specs.View as view
use Rattle.plm_type.proofs.Lists.{drop_at}
use Rattle.plm_type.proofs.Rows.{statement_row}
use Rattle.plm_type.proofs.calls.+statement_calls.Goals as goal

pub add_statement-returns-in_ok-add_statements-in-If : goal.add_statement-returns-in_ok-add_statements-in-If
add_statement-returns-in_ok-add_statements-in-If t c =
    let old = c.args.called.now.items in
    let e = view.expression_of c.in-If.test in
    let then1 = c.in-If.then in
    let other = c.in-If.other in
    let a = spec.calls_in e in
    let b = spec.statements_calls (view.statements_of then1.items) in
    let d = spec.statements_calls (view.statements_of other.items) in
    let is = ap view.statement_of c.in-If.is ∙ (λ j. rest.If e (statement_row then1 j) (statement_row other j)) in
    let first = c.in_ok-add_statements-in-If.ensures ∙ (λ j. c.in_ok-add_calls-in-If.ensures j ++ spec.statements_calls (view.statements_of (c.deref-in-If.ensures.value j))) in
    let path =
    (λ j. first j ++ spec.statements_calls (view.statements_of (c.deref-in-If-2.ensures.value j)))
    ∙ append_assoc (old ++ a) b d ∙ append_assoc old a (b ++ d)
    ∙ ap (λ (s : rest.Statement). old ++ spec.statement_calls s) (sym is) in
    subst (λ (l : List ℕ). OnOk c.add_statements-in-If.result (c.add_statements-in-If.new.called.items ≡ l)) path c.add_statements-in-If.ensures

pub add_statement-returns-in-Block : goal.add_statement-returns-in-Block
add_statement-returns-in-Block t c =
    let old = c.args.called.now.items in
    let is = ap view.statement_of c.in-Block.is ∙ ap rest.Block (statement_row c.in-Block.body) in
    let path =
    (λ j. old ++ spec.statements_calls (view.statements_of (c.deref-in-Block.ensures.value j)))
    ∙ ap (λ (s : rest.Statement). old ++ spec.statement_calls s) (sym is) in
    subst (λ (l : List ℕ). OnOk c.add_statements-in-Block.result (c.add_statements-in-Block.new.called.items ≡ l)) path c.add_statements-in-Block.ensures

pub add_statement-returns-in_ok-add_calls-in-Iterate : goal.add_statement-returns-in_ok-add_calls-in-Iterate
add_statement-returns-in_ok-add_calls-in-Iterate t c =
    let old = c.args.called.now.items in
    let e = view.expression_of c.in-Iterate.first in
    let r = c.in-Iterate.rounds.value in
    let is = ap view.statement_of c.in-Iterate.is
    ∙ ap (λ (ss : rest.Statements). rest.Iterate e (rest.Count r.counting (view.scalar_of r.index) (view.expression_of r.bound) (view.expression_of r.step) ss)) (statement_row r.body) in
    let path =
    (λ j. c.in_ok-add_calls-in-Iterate.ensures j ++ spec.loop_calls (view.loop_of (c.deref-in-Iterate.ensures j)))
    ∙ append_assoc old (spec.calls_in e) (spec.loop_calls (view.loop_of r))
    ∙ ap (λ (s : rest.Statement). old ++ spec.statement_calls s) (sym is) in
    subst (λ (l : List ℕ). OnOk c.add_rounds.result (c.add_rounds.new.called.items ≡ l)) path c.add_rounds.ensures

pub add_statement-returns-in_ok-add_calls-in-While : goal.add_statement-returns-in_ok-add_calls-in-While
add_statement-returns-in_ok-add_calls-in-While t c =
    let old = c.args.called.now.items in
    let e = view.expression_of c.in-While.test in
    let body = c.in-While.body in
    let is = ap view.statement_of c.in-While.is ∙ ap (rest.While e e) (statement_row body) in
    let path =
    (λ j. c.in_ok-add_calls-in-While.ensures j ++ spec.statements_calls (view.statements_of (c.deref-in-While.ensures.value j)))
    ∙ append_assoc old (spec.calls_in e) (spec.statements_calls (view.statements_of body.items))
    ∙ ap (λ (s : rest.Statement). old ++ spec.statement_calls s) (sym is) in
    subst (λ (l : List ℕ). OnOk c.add_statements-in-While.result (c.add_statements-in-While.new.called.items ≡ l)) path c.add_statements-in-While.ensures

pub add_statement-returns-in_ok-add_calls-in-Case : goal.add_statement-returns-in_ok-add_calls-in-Case
add_statement-returns-in_ok-add_calls-in-Case t c =
    let old = c.args.called.now.items in
    let e = view.expression_of c.in-Case.value in
    let body = c.in-Case.cases in
    let is = ap view.statement_of c.in-Case.is ∙ ap (rest.Case e) (statement_row body) in
    let path =
    (λ j. c.in_ok-add_calls-in-Case.ensures j ++ spec.statements_calls (view.statements_of (c.deref-in-Case.ensures.value j)))
    ∙ append_assoc old (spec.calls_in e) (spec.statements_calls (view.statements_of body.items))
    ∙ ap (λ (s : rest.Statement). old ++ spec.statement_calls s) (sym is) in
    subst (λ (l : List ℕ). OnOk c.add_statements-in-Case.result (c.add_statements-in-Case.new.called.items ≡ l)) path c.add_statements-in-Case.ensures

pub add_statements-loop-statement-preserved : goal.add_statements-loop-statement-preserved
add_statements-loop-statement-preserved t c =
    let here = c.loop-statement in
    let xs = c.args.statements.now in
    let i = here.statement-index in
    let x = c.statement-item.result in
    let calls = λ (l : List (Box Statement)). spec.statements_calls (view.statements_of l) in
    ap (λ (l : List ℕ). l ++ calls (drop (i + 1) xs)) (c.in_ok-add_statement.ensures ∙ (λ j. here.called.items ++ spec.statement_calls (view.statement_of (c.deref.ensures j))))
    ∙ append_assoc here.called.items _ _
    ∙ ap (λ (l : List (Box Statement)). here.called.items ++ calls l) (sym (drop_at xs i x c.loop-statement-test.true c.statement-item.is))
    ∙ here.invariant
