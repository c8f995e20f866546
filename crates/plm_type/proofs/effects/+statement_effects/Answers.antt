use Rattle.std.proofs.Common.{◌≡◌, ◌+◌, ◌++◌, OnOk, List, drop, append_assoc, subst, sym, ap, ◌∙◌}
use Rattle.plm_decl.specs.declared.resolved.Bounds.{Bounds}
use Rattle.plm_decl.specs.Resolved.{StatementR}
use Rattle.plm_decl.specs.ResolvedView as resolved
use Rattle.plm_type.specs.declared.effects.Effect.{Effect}
use Rattle.plm_type.specs.Effects as spec
use Rattle.plm_type.proofs.Lists.{statements_at}
use Rattle.plm_type.proofs.effects.+statement_effects.Goals as goal

pub add_statement-returns-in-Do : goal.add_statement-returns-in-Do
add_statement-returns-in-Do t c =
    let old = c.args.effects.now.items in
    let is = ap resolved.statement_of c.in-Do.is ∙ c.resolved_trees_have_their_lists.ensures.block c.in-Do.field-0 c.in-Do.body in
    let path =
    (λ j. old ++ spec.of_statements (resolved.statements_of (c.deref-in-Do.ensures.value j)))
    ∙ ap (λ (s : StatementR). old ++ spec.of_statement s) (sym is) in
    subst (λ (l : List Effect). OnOk c.add_statements.result (c.add_statements.new.effects.items ≡ l)) path c.add_statements.ensures

pub add_statement-returns-in_ok-add_expression-in-While : goal.add_statement-returns-in_ok-add_expression-in-While
add_statement-returns-in_ok-add_expression-in-While t c =
    let old = c.args.effects.now.items in
    let at = c.in-While in
    let e = resolved.expression_of at.test in
    let is = ap resolved.statement_of at.is ∙ c.resolved_trees_have_their_lists.ensures.while_true at.field-0 at.test at.body in
    let path =
    (λ j. c.in_ok-add_expression-in-While.ensures j ++ spec.of_statements (resolved.statements_of (c.deref-in-While.ensures.value j)))
    ∙ append_assoc old (spec.of_expression e) (spec.of_statements (resolved.statements_of at.body.items))
    ∙ ap (λ (s : StatementR). old ++ spec.of_statement s) (sym is) in
    subst (λ (l : List Effect). OnOk c.add_statements-in-While.result (c.add_statements-in-While.new.effects.items ≡ l)) path c.add_statements-in-While.ensures

pub add_statement-returns-in_ok-add_expression-in-Case : goal.add_statement-returns-in_ok-add_expression-in-Case
add_statement-returns-in_ok-add_expression-in-Case t c =
    let old = c.args.effects.now.items in
    let at = c.in-Case in
    let e = resolved.expression_of at.value in
    let is = ap resolved.statement_of at.is ∙ c.resolved_trees_have_their_lists.ensures.case_of at.field-0 at.value at.cases in
    let path =
    (λ j. c.in_ok-add_expression-in-Case.ensures j ++ spec.of_statements (resolved.statements_of (c.deref-in-Case.ensures.value j)))
    ∙ append_assoc old (spec.of_expression e) (spec.of_statements (resolved.statements_of at.cases.items))
    ∙ ap (λ (s : StatementR). old ++ spec.of_statement s) (sym is) in
    subst (λ (l : List Effect). OnOk c.add_statements-in-Case.result (c.add_statements-in-Case.new.effects.items ≡ l)) path c.add_statements-in-Case.ensures

-- what stands before the statements of a DO with an index
abbrev before : Bounds → List Effect
before b = spec.of_expression (resolved.expression_of b.from) ++ (spec.of_expression (resolved.expression_of b.to) ++ spec.of_step (resolved.step_of b.step))

pub add_statement-returns-in_ok-add_bounds-in-Iterate : goal.add_statement-returns-in_ok-add_bounds-in-Iterate
add_statement-returns-in_ok-add_bounds-in-Iterate t c =
    let old = c.args.effects.now.items in
    let at = c.in-Iterate in
    let bounds = at.bounds.value in
    let a = spec.of_expression (resolved.expression_of bounds.from) in
    let b = spec.of_expression (resolved.expression_of bounds.to) in
    let s = spec.of_step (resolved.step_of bounds.step) in
    let body = spec.of_statements (resolved.statements_of at.body.items) in
    let is = ap resolved.statement_of at.is ∙ c.resolved_trees_have_their_lists.ensures.iterate at.field-0 at.field-1 at.bounds at.body in
    let done = c.in_ok-add_bounds-in-Iterate.ensures ∙ ap (λ (x : Bounds). old ++ before x) c.deref-in-Iterate.ensures in
    let path =
    (λ j. done j ++ spec.of_statements (resolved.statements_of (c.deref-in-Iterate-2.ensures.value j)))
    ∙ append_assoc old (a ++ (b ++ s)) body
    ∙ ap (λ (l : List Effect). old ++ l) (append_assoc a (b ++ s) body ∙ ap (λ (l : List Effect). a ++ l) (append_assoc b s body))
    ∙ ap (λ (x : StatementR). old ++ spec.of_statement x) (sym is) in
    subst (λ (l : List Effect). OnOk c.add_statements-in-Iterate.result (c.add_statements-in-Iterate.new.effects.items ≡ l)) path c.add_statements-in-Iterate.ensures

pub add_statements-loop-statement-preserved : goal.add_statements-loop-statement-preserved
add_statements-loop-statement-preserved t c =
    let here = c.loop-statement in
    let xs = c.args.statements.now in
    let i = here.statement-index in
    let x = c.statement-item.result in
    ap (λ (l : List Effect). l ++ spec.of_statements (resolved.statements_of (drop (i + 1) xs))) c.in_ok-add_statement.ensures
    ∙ append_assoc here.effects.items _ _
    ∙ ap (λ (l : List Effect). here.effects.items ++ l) (sym (ap spec.of_statements (statements_at xs i x c.loop-statement-test.true c.statement-item.is)))
    ∙ here.invariant
