use Rattle.std.proofs.Common.{◌≡◌, ◌+◌, drop, [], ◌∷◌, ◌++◌, OnOk, List, append_assoc, append-nil, subst, sym, ap, ◌∙◌}
use Rattle.plm_decl.specs.declared.resolved.Operation.{Operation}
use Rattle.plm_decl.specs.Resolved.{ExpressionR, BinaryR, LocationR'}
use Rattle.plm_decl.specs.ResolvedView as resolved
use Rattle.plm_type.specs.declared.effects.Effect.{Effect}
use Rattle.plm_type.specs.Effects as spec
use Rattle.plm_type.specs.Inner.Effects as inner
use Rattle.plm_type.proofs.Lists.{drop_at, expressions_at}
use Rattle.plm_type.proofs.effects.+effects.Goals as goal

-- a chain does what its operands do, from left to right
chain_does : (e : ExpressionR) (os : List Operation) → spec.of_expression (resolved.leaned e os) ≡ spec.of_expression e ++ inner.of_operations os
chain_does e [] = sym (append-nil (spec.of_expression e))
chain_does e (o ∷ os) =
    chain_does (BinaryR o.place o.operator e (resolved.expression_of o.operand)) os
    ∙ append_assoc (spec.of_expression e) (spec.of_expression (resolved.expression_of o.operand)) (inner.of_operations os)

pub add_expression-returns-in-Reference : goal.add_expression-returns-in-Reference
add_expression-returns-in-Reference t c =
    let r = c.in-Reference.reference in
    let old = c.args.effects.now.items in
    let is = ap resolved.expression_of c.in-Reference.is ∙ c.resolved_trees_have_their_lists.ensures.reference r in
    subst (λ (l : List Effect). OnOk c.add_value.result (c.add_value.new.effects.items ≡ l)) (ap (λ (x : ExpressionR). old ++ spec.of_expression x) (sym is)) c.add_value.ensures

pub add_expression-returns-in_ok-add_parts-in-Embedded : goal.add_expression-returns-in_ok-add_parts-in-Embedded
add_expression-returns-in_ok-add_parts-in-Embedded t c =
    let p = c.in-Embedded.field-0 in
    let x = c.in-Embedded.target in
    let old = c.args.effects.now.items in
    let e = resolved.expression_of c.in-Embedded.value.value in
    let is = ap resolved.expression_of c.in-Embedded.is ∙ c.resolved_trees_have_their_lists.ensures.embedded p x c.in-Embedded.value in
    let path =
    (λ j. c.in_ok-add_parts-in-Embedded.ensures j ++ spec.of_expression (resolved.expression_of (c.deref-in-Embedded.ensures j)))
    ∙ append_assoc old (spec.of_parts (resolved.reference_of x)) (spec.of_expression e)
    ∙ ap (λ (y : ExpressionR). old ++ spec.of_expression y) (sym is) in
    subst (λ (l : List Effect). OnOk c.add_expression-in-Embedded.result (c.add_expression-in-Embedded.new.effects.items ≡ l)) path c.add_expression-in-Embedded.ensures

pub add_expression-returns-in_ok-add_expression-in-Chain : goal.add_expression-returns-in_ok-add_expression-in-Chain
add_expression-returns-in_ok-add_expression-in-Chain t c =
    let old = c.args.effects.now.items in
    let e = resolved.expression_of c.in-Chain.first.value in
    let os = c.in-Chain.others in
    let is = ap resolved.expression_of c.in-Chain.is ∙ c.resolved_trees_have_their_lists.ensures.chain c.in-Chain.first os in
    let first = c.in_ok-add_expression-in-Chain.ensures ∙ (λ j. old ++ spec.of_expression (resolved.expression_of (c.deref-in-Chain.ensures j))) in
    let path =
    (λ j. first j ++ inner.of_operations (c.deref-in-Chain-2.ensures.value j))
    ∙ append_assoc old (spec.of_expression e) (inner.of_operations os.items)
    ∙ ap (λ (l : List Effect). old ++ l) (sym (chain_does e os.items))
    ∙ ap (λ (x : ExpressionR). old ++ spec.of_expression x) (sym is) in
    subst (λ (l : List Effect). OnOk c.add_operations.result (c.add_operations.new.effects.items ≡ l)) path c.add_operations.ensures

pub add_location-returns-in-Reference : goal.add_location-returns-in-Reference
add_location-returns-in-Reference t c =
    let old = c.args.effects.now.items in
    let r = c.in-Reference.reference in
    let is = ap resolved.location_of c.in-Reference.is ∙ c.resolved_trees_have_their_lists.ensures.location c.in-Reference.field-0 c.in-Reference.field-1 r in
    subst (λ (l : List Effect). OnOk c.add_parts.result (c.add_parts.new.effects.items ≡ l)) (ap (λ (x : LocationR'). old ++ spec.of_location x) (sym is)) c.add_parts.ensures

pub add_operations-loop-operation-preserved : goal.add_operations-loop-operation-preserved
add_operations-loop-operation-preserved t c =
    let here = c.loop-operation in
    let xs = c.args.operations.now in
    let i = here.operation-index in
    let x = c.operation-item.result in
    ap (λ (l : List Effect). l ++ inner.of_operations (drop (i + 1) xs)) c.in_ok-add_expression.ensures
    ∙ append_assoc here.effects.items _ _
    ∙ ap (λ (l : List Operation). here.effects.items ++ inner.of_operations l) (sym (drop_at xs i x c.loop-operation-test.true c.operation-item.is))
    ∙ here.invariant

pub add_list-loop-e-preserved : goal.add_list-loop-e-preserved
add_list-loop-e-preserved t c =
    let here = c.loop-e in
    let xs = c.args.es.now in
    let i = here.e-index in
    let x = c.e-item.result in
    ap (λ (l : List Effect). l ++ spec.of_list (resolved.expressions_of (drop (i + 1) xs))) c.in_ok-add_expression.ensures
    ∙ append_assoc here.effects.items _ _
    ∙ ap (λ (l : List Effect). here.effects.items ++ l) (sym (ap spec.of_list (expressions_at xs i x c.loop-e-test.true c.e-item.is)))
    ∙ here.invariant
