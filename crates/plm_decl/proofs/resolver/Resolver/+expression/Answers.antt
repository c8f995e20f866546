use Rattle.std.proofs.Common.{◌≡◌, ◌+◌, List, ◌∷◌, map, drop, drop-cons, add-one, IfOk, sym, ap, subst, ◌∙◌}
use Rattle.std.proofs.lemmas.List.{at_drop_all}
use Rattle.std.proofs.lemmas.Result.{IfOk-at_ok, IfOk-weaker}
use Rattle.plm_syntax.specs.declared.tree.Operation.{Operation}
use Rattle.plm_decl.proofs.ListViews.{value_list_from}
use Rattle.plm_syntax.specs.Tree.{no_values, ExpressionT, ReferenceE, EmbeddedE, LocationT, ExpressionsT, LocationOf}
use Rattle.plm_syntax.specs.View as tree
use Rattle.plm_decl.proofs.SyntaxRows.{value_row, operation_row}
use Rattle.plm_decl.specs.Inner.Scope.{frames_of}
use Rattle.plm_decl.specs.Inner.Resolver.{known_of}
use Rattle.plm_decl.specs.Lists.{value_list}
use Rattle.plm_decl.specs.Resolver.{Known}
use Rattle.plm_decl.specs.declared.resolved.Expression as made_tree
use Rattle.plm_decl.specs.Resolved.{ExpressionR, BinaryR, ReferenceR, and_expression}
use Rattle.plm_decl.specs.Resolved as resolved
use Rattle.plm_decl.specs.ResolvedView as view
use Rattle.plm_decl.specs.Expressions.{expression, subscripts, location, constant_bytes}
use Rattle.plm_decl.specs.Inner.Expressions.{chained}
use Rattle.plm_decl.proofs.Chains.{chained_is}
use Rattle.plm_decl.proofs.Made.{made_so}
use Rattle.plm_decl.proofs.ResolvedRows as rows
use Rattle.plm_decl.proofs.SyntaxLists.{expression_next}
use Rattle.plm_decl.proofs.TreeViews.{reference_laid, reference_placed}
use Rattle.plm_decl.proofs.resolver.Resolver.+expression.Goals as goal

pub expression-returns-in-Reference : goal.expression-returns-in-Reference
expression-returns-in-Reference t c =
    let is = sym (ap tree.expression_of c.in-Reference.is ∙ ap ReferenceE (reference_laid c.in-Reference.reference)) in
    subst (λ (e : ExpressionT). IfOk c.reference_expression.result (λ r. (view.expression_of r, known_of c.reference_expression.new.self) ≡ expression (frames_of c.args.scope.now) e (known_of c.args.self.now))) is c.reference_expression.ensures

pub reference_expression-returns : goal.reference_expression-returns
reference_expression-returns t c =
    let did = c.in_ok-reference in
    (λ j. (ReferenceR (reference_placed did.field-0 j), known_of c.reference.new.self))
    ∙ (λ j. (ReferenceR (did.ensures j).0, (did.ensures j).1))

pub location-returns-in_ok-reference-in-Reference : goal.location-returns-in_ok-reference-in-Reference
location-returns-in_ok-reference-in-Reference t c =
    let did = c.in_ok-reference-in-Reference in
    let p = c.in-Reference.place in
    let f = c.in-Reference.form in
    (λ j. (resolved.LocationOf p f (reference_placed did.reference j), known_of c.reference.new.self))
    ∙ (λ j. (resolved.LocationOf p f (did.ensures j).0, (did.ensures j).1))
    ∙ ap (λ (l : LocationT). location (frames_of c.args.scope.now) l (known_of c.args.self.now))
    (sym (ap tree.location_of c.in-Reference.is ∙ ap (LocationOf p f) (reference_laid c.in-Reference.reference)))

pub subscripts-loop-subscript-preserved : goal.subscripts-loop-subscript-preserved
subscripts-loop-subscript-preserved t c =
    let here = c.loop-subscript in
    let frames = frames_of c.args.scope.now in
    let k = known_of c.args.self.now in
    let all = c.args.subscripts.now in
    let x = tree.expression_of c.subscript-item.result in
    let next = sym (expression_next all here.subscript-index c.subscript-item.result c.loop-subscript-test.true c.subscript-item.is) in
    made_so _ _ c.expression.result c.in_ok-pushed.ensures c.expression.ensures
    (λ e kept did.
    let pushed = ap view.expressions_of kept ∙ rows.expression_pushed here.resolved.items e in
    (λ j. (pushed j, known_of c.expression.new.self))
    ∙ (λ j. (and_expression (view.expressions_of here.resolved.items) (did j).0, (did j).1))
    ∙ (λ j. let done = here.invariant j in let r = expression frames x done.1 in (and_expression done.0 r.0, r.1))
    ∙ ap (λ (es : ExpressionsT). subscripts frames es k) next)

pub expression-returns-in_ok-target-in-Embedded : goal.expression-returns-in_ok-target-in-Embedded
expression-returns-in_ok-target-in-Embedded t c =
    let frames = frames_of c.args.scope.now in
    let k = known_of c.args.self.now in
    let p = c.in-Embedded.place in
    let x = c.in-Embedded.target in
    let made = c.in_ok-target-in-Embedded in
    let all =
    (λ j. let r = made.ensures j in let q = expression frames (tree.expression_of (c.deref-in-Embedded.ensures j)) r.1 in let both : ExpressionR × Known = (resolved.EmbeddedR p r.0 q.0, q.1) in both)
    ∙ ap (λ (e : ExpressionT). expression frames e k)
    (sym (ap tree.expression_of c.in-Embedded.is ∙ ap (λ r. EmbeddedE p r (tree.expression_of c.in-Embedded.value.value)) (reference_laid x))) in
    subst (λ (y : ExpressionR × Known). IfOk c.embedded.result (λ e. (view.expression_of e, known_of c.embedded.new.self) ≡ y)) all c.embedded.ensures

pub embedded-returns-in-Ok : goal.embedded-returns-in-Ok
embedded-returns-in-Ok t c =
    let did = c.in-Ok.ensures in
    (λ j. (resolved.EmbeddedR c.args.place (reference_placed c.args.target j) (did j).0, (did j).1))

pub boxed_expression-returns : goal.boxed_expression-returns
boxed_expression-returns t c =
    let all = expression (frames_of c.args.scope.now) (tree.expression_of c.args.e.now) (known_of c.args.self.now) in
    IfOk-weaker c.boxed.result _ _
    (λ b made. IfOk-at_ok (λ (e : made_tree.Expression). (view.expression_of e, known_of c.expression.new.self) ≡ all) made c.expression.ensures)
    c.boxed.ensures

pub location-returns-in_ok-object-in-Constants : goal.location-returns-in_ok-object-in-Constants
location-returns-in_ok-object-in-Constants t c =
    let frames = frames_of c.args.scope.now in
    let k = known_of c.args.self.now in
    let p = c.in-Constants.place in
    let f = c.in-Constants.form in
    let vs = c.in-Constants.values in
    let read = ap (map tree.value_of) c.deref.ensures.value ∙ sym (value_list_from vs.items no_values) ∙ ap value_list (sym (value_row vs)) in
    (λ j. let r = c.in_ok-object-in-Constants.ensures j in (resolved.ConstantsOf p f r.0, r.1))
    ∙ (λ j. let r = constant_bytes frames p (read j) k in (resolved.ConstantsOf p f r.0, r.1))
    ∙ ap (λ (l : LocationT). location frames l k) (sym (ap tree.location_of c.in-Constants.is))

pub operations-loop-operation-preserved : goal.operations-loop-operation-preserved
operations-loop-operation-preserved t c =
    let here = c.loop-operation in
    let frames = frames_of c.args.scope.now in
    let all = c.args.operations.now in
    let i = here.operation-index in
    let x = c.operation-item.result in
    let did = c.in_ok-operand.ensures in
    let one = sym (add-one i) in
    let is = sym c.operation-item.is in
    let next = drop-cons all i x c.loop-operation-test.true ∙ (λ j. is j ∷ drop (one j) all) in
    λ left.
    let before = view.leaned left here.resolved.items in
    let pushed = ap (view.leaned left) c.in_ok-append.ensures ∙ rows.operation_pushed left here.resolved.items _ in
    (λ j. chained frames (pushed j) (drop (i + 1) all) (known_of c.expression.new.self))
    ∙ (λ j. chained frames (BinaryR x.place x.operator before (did j).0) (drop (i + 1) all) (did j).1)
    ∙ ap (λ (os : List Operation). chained frames before os (known_of here.self)) (sym next)
    ∙ here.invariant left

pub operations-returns : goal.operations-returns
operations-returns t c =
    let here = c.loop-operation in
    let frames = frames_of c.args.scope.now in
    λ left.
    sym (at_drop_all (λ (os : List Operation). chained frames (view.leaned left here.resolved.items) os (known_of here.self)) c.args.operations.now here.operation-index c.loop-operation-test.false)
    ∙ here.invariant left

pub expression-returns-in_ok-others-in-Chain : goal.expression-returns-in_ok-others-in-Chain
expression-returns-in_ok-others-in-Chain t c =
    let frames = frames_of c.args.scope.now in
    let k = known_of c.args.self.now in
    let at = c.in-Chain in
    let left = tree.expression_of at.first.value in
    let first = c.in_ok-first-in-Chain in
    let made = c.in_ok-others-in-Chain in
    let begun = first.ensures ∙ ap (λ e. expression frames (tree.expression_of e) k) c.deref-in-Chain.ensures in
    (λ j. (rows.operation_row (view.expression_of first.first.value) made.others j, known_of c.operations.new.self))
    ∙ made.ensures (view.expression_of first.first.value)
    ∙ (λ j. chained frames (begun j).0 (c.deref-in-Chain-2.ensures.value j) (begun j).1)
    ∙ chained_is frames left at.others.items k
    ∙ ap (λ (e : ExpressionT). expression frames e k) (sym (ap tree.expression_of at.is ∙ operation_row left at.others))
