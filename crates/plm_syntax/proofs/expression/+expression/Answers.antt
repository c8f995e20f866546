use Rattle.std.proofs.Common.{◌≡◌, ◌∷◌, ◌++◌, [], ℕ, List, ◌+◌, length, Result, Ok, Err, refl, sym, ap, ◌∙◌, arith}
use Rattle.std.proofs.lemmas.Grind.{common_steps}
use Rattle.plm_token.specs.declared.token.Mark.TheVariants as mark
use Rattle.plm_syntax.specs.declared.tree.UnaryOperator.TheVariants as unary
use Rattle.std.specs.Global.{Vec}
use Rattle.plm_syntax.specs.declared.tree.Position.{Position}
use Rattle.plm_syntax.specs.declared.tree.BinaryOperator.{BinaryOperator}
use Rattle.plm_syntax.specs.declared.tree.Operation.{Operation}
use Rattle.plm_syntax.specs.declared.tree.Expression.{Expression}
use Rattle.plm_syntax.specs.declared.tree.Expression.TheVariants as expression
use Rattle.plm_syntax.specs.declared.tree.Reference.{Reference}
use Rattle.plm_syntax.specs.declared.tree.Value.{Value as ValueTree}
use Rattle.plm_syntax.specs.Tree.{NumeralE, TextE, ReferenceE, LocationE, ParenthesisedE, EmbeddedE, UnaryE, BinaryE, ReferenceOf, ExpressionsT, no_expressions, expressions, no_member, member, member_at, LocationOf, ConstantsOf, NumeralV, NegativeV, TextV, LocationV, ValuesT, no_values, values}
use Rattle.plm_syntax.specs.View.{name_of, number_of, text_of, expression_of, leaned, expressions_of, reference_of, location_of, value_of, values_of}
use Rattle.plm_syntax.specs.Inner.Symbol.{Symbol, depth, need, push, ExpressionR, ExpressionsR, ValueR, ValuesR, Conjunctions, Disjunctions, Want, Do, Leave, PrimaryG, SignedG, NegationG, MoreG, InsideG, AfterReferenceG, SubscriptsG, MoreSubscriptsG, SelectorG, MemberG, MemberSubscriptG, LocatedG, ValueG, NegativeG, MoreValuesG}
use Rattle.plm_syntax.specs.Inner.Machine.{again, an_expression, a_value_list, reference_begun, closing, make_binary, make_unary, make_parenthesised, make_embedded, add_expression, set_subscripts, set_member, set_member_subscript, locate, locate_values, location_value, add_value, Stop, Reading, run}
use Rattle.plm_syntax.specs.Inner.Parsed.{ahead, next_of}
use Rattle.plm_syntax.specs.Inner.Parts.{precedence_view, read_expression, read_boxed, read_operations, read_reference, read_subscripts, read_selector, read_location, read_value, read_values, reference_read, all_precedences, looser_than}
use Rattle.plm_syntax.proofs.Rows.{expression_pushed, operation_pushed, value_pushed}
use Rattle.plm_syntax.proofs.Seen.{seen, reference_laid, embedded_laid, constants_laid, location_laid, chain_laid}
use Rattle.plm_syntax.proofs.Along.{out_of_memory, passed_over, quiet, taken, refused, entered, too_deep, deeper, failed, refusal, depth_failure, arrives_behind, arrives_left, operator_taken}
use Rattle.plm_syntax.proofs.Joined.{arrived, ended, lost, stays_within, closes, closes_by, closes_within, boxes, operated}
use Rattle.plm_syntax.proofs.NextExpression.{negation_goes, inside_goes, reference_goes, signed_goes, primary_refused, value_refused, negative_refused, member_refused, located_refused, more_subscripts_refused, more_values_refused, located_value, again_relations, again_others, depth_again, depth_looser, all_over, no_level, first_operator, looser_operator, no_looser}
use Rattle.plm_syntax.proofs.expression.+expression.Goals as goal

pub behind_reference-returns-in_err-target-clause-leads : goal.behind_reference-returns-in_err-target-clause-leads
behind_reference-returns-in_err-target-clause-leads t c = λ s v d. failed read_expression s v c.from_residual.result c.in_err-target.field-0.0 c.from_residual.ensures.1
    (taken (Want (AfterReferenceG c.args.place) ∷ s) (read_reference c.args.first v) c.in-Some.ensures)
    (ended read_boxed (Do (make_embedded c.args.place) ∷ s) (read_reference c.args.first v) (run 64 (an_expression (need mark.RightParenthesis ∷ Do (make_embedded c.args.place) ∷ s)) (read_reference c.args.first v) (ahead c.in-Some.after)) c.in_err-target.ensures
    (c.closed.ensures.leads (Do (make_embedded c.args.place) ∷ s) (read_reference c.args.first v) d))

pub behind_reference-returns-in-Some-clause-leads : goal.behind_reference-returns-in-Some-clause-leads
behind_reference-returns-in-Some-clause-leads t c = λ s v d. taken (Want (AfterReferenceG c.args.place) ∷ s) (read_reference c.args.first v) c.in-Some.ensures
    ∙ arrived read_boxed (Do (make_embedded c.args.place) ∷ s) (read_reference c.args.first v) c.in_ok-target.ensures.1 (c.closed.ensures.leads (Do (make_embedded c.args.place) ∷ s) (read_reference c.args.first v) d)
    ∙ quiet c.in_ok-target.rest (Do (make_embedded c.args.place) ∷ s) s (read_boxed c.in_ok-target.value (read_reference c.args.first v)) (ExpressionR (EmbeddedE c.args.place (reference_of c.args.first) (expression_of c.in_ok-target.value.value)) ∷ v) (λ t q. refl)
    ∙ seen s v c.in_ok-target.rest (ap (λ (x : Reference). EmbeddedE c.args.place (reference_of x) (expression_of c.in_ok-target.value.value)) (sym c.in_ok-target.ensures.0))
    ∙ seen s v c.in_ok-target.rest (embedded_laid c.args.place c.in_ok-target.target (expression_of c.in_ok-target.value.value))

pub behind_reference-returns-in_err-inside-clause-leads : goal.behind_reference-returns-in_err-inside-clause-leads
behind_reference-returns-in_err-inside-clause-leads t c = λ s v d. failed read_expression s v c.from_residual-in_err-inside.result c.in_err-inside.field-0.0 c.from_residual-in_err-inside.ensures.1
    (reference_goes c.args.place c.args.cursor s (read_reference c.args.first v) c.in_default.ensures
    ∙ seen (all_precedences (closing c.args.place ++ s)) v c.args.cursor (ap ReferenceE (reference_laid c.args.first)))
    (boxes read_expression (Do (make_parenthesised c.args.place) ∷ s) v c.closing.result (Err c.in_err-inside.field-0.0) (run 64 (all_precedences (closing c.args.place ++ s)) (read_expression (expression.Reference c.args.first) v) (ahead c.args.cursor)) c.in_err-inside.ensures (closes read_expression mark.RightParenthesis (Do (make_parenthesised c.args.place) ∷ s) v c.climb-begun.result c.closing.result (run 64 (all_precedences (closing c.args.place ++ s)) (read_expression (expression.Reference c.args.first) v) (ahead c.args.cursor)) c.closing.ensures (c.climb-begun.ensures.leads (closing c.args.place ++ s) v d)))

pub behind_reference-returns-clause-leads : goal.behind_reference-returns-clause-leads
behind_reference-returns-clause-leads t c = λ s v d. reference_goes c.args.place c.args.cursor s (read_reference c.args.first v) c.in_default.ensures
    ∙ seen (all_precedences (closing c.args.place ++ s)) v c.args.cursor (ap ReferenceE (reference_laid c.args.first))
    ∙ boxes read_expression (Do (make_parenthesised c.args.place) ∷ s) v c.closing.result (Ok (c.in_ok-inside.inside, c.in_ok-inside.rest)) (run 64 (all_precedences (closing c.args.place ++ s)) (read_expression (expression.Reference c.args.first) v) (ahead c.args.cursor)) c.in_ok-inside.ensures (closes read_expression mark.RightParenthesis (Do (make_parenthesised c.args.place) ∷ s) v c.climb-begun.result c.closing.result (run 64 (all_precedences (closing c.args.place ++ s)) (read_expression (expression.Reference c.args.first) v) (ahead c.args.cursor)) c.closing.ensures (c.climb-begun.ensures.leads (closing c.args.place ++ s) v d))
    ∙ quiet c.in_ok-inside.rest (Do (make_parenthesised c.args.place) ∷ s) s (read_boxed c.in_ok-inside.inside v) (ExpressionR (ParenthesisedE c.args.place (expression_of c.in_ok-inside.inside.value)) ∷ v) (λ t q. refl)

pub location-returns-in_err-level_down-clause-leads : goal.location-returns-in_err-level_down-clause-leads
location-returns-in_err-level_down-clause-leads t c = λ s v d. failed read_location s v c.from_residual.result c.in_err-level_down.field-0.0 c.from_residual.ensures.1
    (taken (Want (LocatedG c.args.place c.args.form) ∷ s) v c.in-Some.ensures
    ∙ too_deep (depth s) c.args.room c.in-Some.inner (run 64 (a_value_list (Leave ∷ Do (locate_values c.args.place c.args.form) ∷ s)) v (ahead c.in-Some.inner)) d c.in_err-level_down.ensures.0)
    (depth_failure c.in_err-level_down.field-0.0 c.in-Some.inner c.in_err-level_down.ensures.1 refl)

pub location-returns-in_err-constants-clause-leads : goal.location-returns-in_err-constants-clause-leads
location-returns-in_err-constants-clause-leads t c = λ s v d. failed read_location s v c.from_residual-in_err-constants.result c.in_err-constants.field-0.0 c.from_residual-in_err-constants.ensures.1
    (taken (Want (LocatedG c.args.place c.args.form) ∷ s) v c.in-Some.ensures
    ∙ entered (depth s) c.args.room c.in_ok-level_down.field-0 (length (ahead c.in-Some.inner)) (run 64 (a_value_list (Leave ∷ Do (locate_values c.args.place c.args.form) ∷ s)) v (ahead c.in-Some.inner)) d c.in_ok-level_down.ensures)
    (c.in_err-constants.ensures.leads (Leave ∷ Do (locate_values c.args.place c.args.form) ∷ s) v (deeper (depth s) c.args.room c.in_ok-level_down.field-0 d c.in_ok-level_down.ensures))

pub location-returns-in-Some-clause-leads : goal.location-returns-in-Some-clause-leads
location-returns-in-Some-clause-leads t c = λ s v d. taken (Want (LocatedG c.args.place c.args.form) ∷ s) v c.in-Some.ensures
    ∙ entered (depth s) c.args.room c.in_ok-level_down.field-0 (length (ahead c.in-Some.inner)) (run 64 (a_value_list (Leave ∷ Do (locate_values c.args.place c.args.form) ∷ s)) v (ahead c.in-Some.inner)) d c.in_ok-level_down.ensures
    ∙ c.in_ok-constants.ensures.leads (Leave ∷ Do (locate_values c.args.place c.args.form) ∷ s) v (deeper (depth s) c.args.room c.in_ok-level_down.field-0 d c.in_ok-level_down.ensures)
    ∙ quiet c.in_ok-constants.rest (Leave ∷ Do (locate_values c.args.place c.args.form) ∷ s) s (read_values c.in_ok-constants.constants.items v) (ExpressionR (LocationE (ConstantsOf c.args.place c.args.form (values_of c.in_ok-constants.constants.items))) ∷ v) (λ t q. refl)
    ∙ seen s v c.in_ok-constants.rest (ap LocationE (constants_laid c.args.place c.args.form c.in_ok-constants.constants))

pub location-returns-in_err-name-clause-leads : goal.location-returns-in_err-name-clause-leads
location-returns-in_err-name-clause-leads t c = λ s v d. failed read_location s v c.from_residual-in_err-name.result c.in_err-name.field-0.0 c.from_residual-in_err-name.ensures.1
    (refused (LocatedG c.args.place c.args.form) c.args.cursor s v (located_refused c.args.place c.args.form (next_of c.args.cursor) c.in_default.ensures c.in_err-name.ensures.0))
    (refusal c.in_err-name.field-0.0 c.args.cursor c.in_err-name.ensures.1 refl)

pub location-returns-in_err-reference-clause-leads : goal.location-returns-in_err-reference-clause-leads
location-returns-in_err-reference-clause-leads t c = λ s v d. failed read_location s v c.from_residual-in_err-reference.result c.in_err-reference.field-0.0 c.from_residual-in_err-reference.ensures.1
    (taken (Want (LocatedG c.args.place c.args.form) ∷ s) v c.in_ok-name.ensures
    ∙ quiet c.in_ok-name.behind (reference_begun (name_of c.in_ok-name.name) (Do (locate c.args.place c.args.form) ∷ s)) (Want SubscriptsG ∷ Want SelectorG ∷ Do (locate c.args.place c.args.form) ∷ s) v (reference_read (name_of c.in_ok-name.name) v) (λ t q. refl))
    (c.in_err-reference.ensures.leads (Do (locate c.args.place c.args.form) ∷ s) v d)

pub location-returns-clause-leads : goal.location-returns-clause-leads
location-returns-clause-leads t c = λ s v d. taken (Want (LocatedG c.args.place c.args.form) ∷ s) v c.in_ok-name.ensures
    ∙ quiet c.in_ok-name.behind (reference_begun (name_of c.in_ok-name.name) (Do (locate c.args.place c.args.form) ∷ s)) (Want SubscriptsG ∷ Want SelectorG ∷ Do (locate c.args.place c.args.form) ∷ s) v (reference_read (name_of c.in_ok-name.name) v) (λ t q. refl)
    ∙ c.in_ok-reference.ensures.leads (Do (locate c.args.place c.args.form) ∷ s) v d
    ∙ quiet c.in_ok-reference.rest (Do (locate c.args.place c.args.form) ∷ s) s (read_reference c.in_ok-reference.reference v) (ExpressionR (LocationE (LocationOf c.args.place c.args.form (reference_of c.in_ok-reference.reference))) ∷ v) (λ t q. refl)
    ∙ seen s v c.in_ok-reference.rest (ap LocationE (location_laid c.args.place c.args.form c.in_ok-reference.reference))

pub more-returns-in_err-left-clause-leads : goal.more-returns-in_err-left-clause-leads
more-returns-in_err-left-clause-leads t c = λ s v d. failed read_expression s v c.from_residual.result c.in_err-left.field-0.0 c.from_residual.ensures.1 refl
    (ended (λ (os : Vec Operation). read_operations (expression_of c.args.first) os.items) s v (run 64 (Want (MoreG (precedence_view c.args.precedence)) ∷ s) (read_expression c.args.first v) (ahead c.args.cursor)) c.in_err-left.ensures (c.operations.ensures.leads (expression_of c.args.first) s v d))

pub more-returns-in_err-first-clause-leads : goal.more-returns-in_err-first-clause-leads
more-returns-in_err-first-clause-leads t c = λ s v d. out_of_memory read_expression s v c.from_residual-in_err-first.result (run 64 (Want (MoreG (precedence_view c.args.precedence)) ∷ s) (read_expression c.args.first v) (ahead c.args.cursor)) c.from_residual-in_err-first.ensures.1

pub more-returns-clause-leads : goal.more-returns-clause-leads
more-returns-clause-leads t c = λ s v d. arrived (λ (os : Vec Operation). read_operations (expression_of c.args.first) os.items) s v c.in_ok-left.ensures.1 (c.operations.ensures.leads (expression_of c.args.first) s v d)
    ∙ seen s v c.in_ok-left.rest (ap (λ (e : Expression). leaned (expression_of e) c.in_ok-left.others.items) (sym c.in_ok-left.ensures.0))
    ∙ seen s v c.in_ok-left.rest (chain_laid c.in_ok-left.others c.in_ok-first.ensures.ok)

-- an operator and its right operand
abbrev operation : Position → BinaryOperator → Expression → Operation
operation p o e = record { place = p; operator = o; operand = e }

pub operations-returns-in_err-list-clause-leads : goal.operations-returns-in_err-list-clause-leads
operations-returns-in_err-list-clause-leads t c = λ left s v d. out_of_memory (λ (os : Vec Operation). read_operations left os.items) s v c.from_residual.result (run 64 (Want (MoreG (precedence_view c.args.precedence)) ∷ s) (ExpressionR left ∷ v) (ahead c.args.cursor)) c.from_residual.ensures.1

pub operations-returns-in_err-operand-clause-leads : goal.operations-returns-in_err-operand-clause-leads
operations-returns-in_err-operand-clause-leads t c = λ left s v d. failed (λ (os : Vec Operation). read_operations left os.items) s v c.from_residual-in_err-operand.result c.in_err-operand.field-0.0 c.from_residual-in_err-operand.ensures.1
    (c.loop-place.invariant.leads left s v d
    ∙ taken (Want (MoreG (precedence_view c.args.precedence)) ∷ s) (read_operations left c.loop-place.list.items v) c.in-Some.ensures.0
    ∙ operator_taken (precedence_view c.args.precedence) c.in-Some.operator c.in-Some.place s (read_operations left c.loop-place.list.items v) (ahead c.in-Some.after) c.in-Some.ensures.1)
    (c.in_err-operand.ensures.leads (Do (make_binary c.in-Some.place c.in-Some.operator) ∷ (again (precedence_view c.args.precedence) ++ s)) (read_operations left c.loop-place.list.items v) (ap (λ (n : ℕ). n + c.args.room) (depth_again (precedence_view c.args.precedence) s) ∙ d))

pub operations-returns-then-is_relations-clause-leads : goal.operations-returns-then-is_relations-clause-leads
operations-returns-then-is_relations-clause-leads t c = λ left s v d. c.loop-place.invariant.leads left s v d
    ∙ taken (Want (MoreG (precedence_view c.args.precedence)) ∷ s) (read_operations left c.loop-place.list.items v) c.in-Some.ensures.0
    ∙ operator_taken (precedence_view c.args.precedence) c.in-Some.operator c.in-Some.place s (read_operations left c.loop-place.list.items v) (ahead c.in-Some.after) c.in-Some.ensures.1
    ∙ c.in_ok-operand.ensures.leads (Do (make_binary c.in-Some.place c.in-Some.operator) ∷ (again (precedence_view c.args.precedence) ++ s)) (read_operations left c.loop-place.list.items v) (ap (λ (n : ℕ). n + c.args.room) (depth_again (precedence_view c.args.precedence) s) ∙ d)
    ∙ quiet c.in_ok-operand.behind (Do (make_binary c.in-Some.place c.in-Some.operator) ∷ (again (precedence_view c.args.precedence) ++ s)) (again (precedence_view c.args.precedence) ++ s) (read_expression c.in_ok-operand.operand (read_operations left c.loop-place.list.items v)) (ExpressionR (BinaryE c.in-Some.place c.in-Some.operator (leaned left c.loop-place.list.items) (expression_of c.in_ok-operand.operand)) ∷ v) (λ t q. refl)
    ∙ seen (again (precedence_view c.args.precedence) ++ s) v c.in_ok-operand.behind (sym (operation_pushed left c.loop-place.list.items (operation c.in-Some.place c.in-Some.operator c.in_ok-operand.operand)))
    ∙ ap (λ (x : List Symbol). run 64 x (read_operations left (c.loop-place.list.items ++ operation c.in-Some.place c.in-Some.operator c.in_ok-operand.operand ∷ []) v) (ahead c.in_ok-operand.behind)) (again_relations (precedence_view c.args.precedence) (sym c.is_relations.ensures ∙ c.if-is_relations.true) s)
    ∙ ap (λ (os : List Operation). run 64 s (read_operations left os v) (ahead c.in_ok-operand.behind)) (sym c.in_ok-push.ensures.items)

pub operations-loop-place-init : goal.operations-loop-place-init
operations-loop-place-init t c = record { leads = λ left s v d. ap (λ (os : List Operation). run 64 (Want (MoreG (precedence_view c.args.precedence)) ∷ s) (read_operations left os v) (ahead c.args.cursor)) (sym c.in_ok-list.ensures.items); shorter = omega arith }

pub operations-loop-place-preserved : goal.operations-loop-place-preserved
operations-loop-place-preserved t c = record {
  leads = λ left s v d. c.loop-place.invariant.leads left s v d
      ∙ taken (Want (MoreG (precedence_view c.args.precedence)) ∷ s) (read_operations left c.loop-place.list.items v) c.in-Some.ensures.0
      ∙ operator_taken (precedence_view c.args.precedence) c.in-Some.operator c.in-Some.place s (read_operations left c.loop-place.list.items v) (ahead c.in-Some.after) c.in-Some.ensures.1
      ∙ c.in_ok-operand.ensures.leads (Do (make_binary c.in-Some.place c.in-Some.operator) ∷ (again (precedence_view c.args.precedence) ++ s)) (read_operations left c.loop-place.list.items v) (ap (λ (n : ℕ). n + c.args.room) (depth_again (precedence_view c.args.precedence) s) ∙ d)
      ∙ quiet c.in_ok-operand.behind (Do (make_binary c.in-Some.place c.in-Some.operator) ∷ (again (precedence_view c.args.precedence) ++ s)) (again (precedence_view c.args.precedence) ++ s) (read_expression c.in_ok-operand.operand (read_operations left c.loop-place.list.items v)) (ExpressionR (BinaryE c.in-Some.place c.in-Some.operator (leaned left c.loop-place.list.items) (expression_of c.in_ok-operand.operand)) ∷ v) (λ t q. refl)
      ∙ seen (again (precedence_view c.args.precedence) ++ s) v c.in_ok-operand.behind (sym (operation_pushed left c.loop-place.list.items (operation c.in-Some.place c.in-Some.operator c.in_ok-operand.operand)))
      ∙ ap (λ (x : List Symbol). run 64 x (read_operations left (c.loop-place.list.items ++ operation c.in-Some.place c.in-Some.operator c.in_ok-operand.operand ∷ []) v) (ahead c.in_ok-operand.behind)) (again_others (precedence_view c.args.precedence) (sym c.is_relations.ensures ∙ c.if-is_relations.false) s)
      ∙ ap (λ (os : List Operation). run 64 (Want (MoreG (precedence_view c.args.precedence)) ∷ s) (read_operations left os v) (ahead c.in_ok-operand.behind)) (sym c.in_ok-push.ensures.items);
  shorter = omega (arith, c.loop-place.invariant.shorter, c.in-Some.ensures.0.shorter, c.in_ok-operand.ensures.within);
}

pub negation-returns-in_err-level_down-in-Some-clause-leads : goal.negation-returns-in_err-level_down-in-Some-clause-leads
negation-returns-in_err-level_down-in-Some-clause-leads t c = λ s v d. failed read_expression s v c.from_residual.result c.in_err-level_down-in-Some.field-0.0 c.from_residual.ensures.1
    (taken (Want NegationG ∷ s) v c.in-Some.ensures
    ∙ too_deep (depth s) c.args.room c.in-Some.inner (run 64 (Want NegationG ∷ Leave ∷ Do (make_unary c.in-Some.place unary.Not) ∷ s) v (ahead c.in-Some.inner)) d c.in_err-level_down-in-Some.ensures.0)
    (depth_failure c.in_err-level_down-in-Some.field-0.0 c.in-Some.inner c.in_err-level_down-in-Some.ensures.1 refl)

pub negation-returns-in_ok-level_down-in-Some-clause-leads : goal.negation-returns-in_ok-level_down-in-Some-clause-leads
negation-returns-in_ok-level_down-in-Some-clause-leads t c = λ s v d. arrives_behind read_expression s v c.unary.result
    (taken (Want NegationG ∷ s) v c.in-Some.ensures
    ∙ entered (depth s) c.args.room c.in_ok-level_down-in-Some.field-0 (length (ahead c.in-Some.inner)) (run 64 (Want NegationG ∷ Leave ∷ Do (make_unary c.in-Some.place unary.Not) ∷ s) v (ahead c.in-Some.inner)) d c.in_ok-level_down-in-Some.ensures)
    (operated c.in-Some.place unary.Not s (Leave ∷ Do (make_unary c.in-Some.place unary.Not) ∷ s) v c.negation-operand.result c.unary.result (run 64 (Want NegationG ∷ Leave ∷ Do (make_unary c.in-Some.place unary.Not) ∷ s) v (ahead c.in-Some.inner)) c.unary.ensures
    (λ y b. quiet b (Leave ∷ Do (make_unary c.in-Some.place unary.Not) ∷ s) s (read_expression y v) (ExpressionR (UnaryE c.in-Some.place unary.Not (expression_of y)) ∷ v) (λ t q. refl))
    (c.negation-operand.ensures.leads (Leave ∷ Do (make_unary c.in-Some.place unary.Not) ∷ s) v (deeper (depth s) c.args.room c.in_ok-level_down-in-Some.field-0 d c.in_ok-level_down-in-Some.ensures)))

pub negation-returns-in-None-clause-leads : goal.negation-returns-in-None-clause-leads
negation-returns-in-None-clause-leads t c = λ s v d. arrives_behind read_expression s v c.binary.result (negation_goes c.args.cursor s v c.in-None.ensures) (c.binary.ensures.leads s v d)

pub parenthesised-returns-in_err-reference-clause-leads : goal.parenthesised-returns-in_err-reference-clause-leads
parenthesised-returns-in_err-reference-clause-leads t c = λ s v d. failed read_expression s v c.from_residual.result c.in_err-reference.field-0.0 c.from_residual.ensures.1
    (taken (Want (InsideG c.args.place) ∷ s) v c.in-Some.ensures
    ∙ quiet c.in-Some.rest (reference_begun (name_of c.in-Some.name) (Want (AfterReferenceG c.args.place) ∷ s)) (Want SubscriptsG ∷ Want SelectorG ∷ Want (AfterReferenceG c.args.place) ∷ s) v (reference_read (name_of c.in-Some.name) v) (λ t q. refl))
    (c.in_err-reference.ensures.leads (Want (AfterReferenceG c.args.place) ∷ s) v d)

pub parenthesised-returns-in-Some-clause-leads : goal.parenthesised-returns-in-Some-clause-leads
parenthesised-returns-in-Some-clause-leads t c = λ s v d. arrives_behind read_expression s v c.behind_reference.result
    (taken (Want (InsideG c.args.place) ∷ s) v c.in-Some.ensures
    ∙ quiet c.in-Some.rest (reference_begun (name_of c.in-Some.name) (Want (AfterReferenceG c.args.place) ∷ s)) (Want SubscriptsG ∷ Want SelectorG ∷ Want (AfterReferenceG c.args.place) ∷ s) v (reference_read (name_of c.in-Some.name) v) (λ t q. refl)
    ∙ c.in_ok-reference.ensures.leads (Want (AfterReferenceG c.args.place) ∷ s) v d)
    (c.behind_reference.ensures.leads s v d)

pub parenthesised-returns-in_err-inside-clause-leads : goal.parenthesised-returns-in_err-inside-clause-leads
parenthesised-returns-in_err-inside-clause-leads t c = λ s v d. failed read_expression s v c.from_residual-in_err-inside.result c.in_err-inside.field-0.0 c.from_residual-in_err-inside.ensures.1
    (inside_goes c.args.place c.args.cursor s v c.in_default.ensures)
    (c.in_err-inside.ensures.leads (Do (make_parenthesised c.args.place) ∷ s) v d)

pub parenthesised-returns-clause-leads : goal.parenthesised-returns-clause-leads
parenthesised-returns-clause-leads t c = λ s v d. inside_goes c.args.place c.args.cursor s v c.in_default.ensures
    ∙ c.in_ok-inside.ensures.leads (Do (make_parenthesised c.args.place) ∷ s) v d
    ∙ quiet c.in_ok-inside.rest (Do (make_parenthesised c.args.place) ∷ s) s (read_boxed c.in_ok-inside.inside v) (ExpressionR (ParenthesisedE c.args.place (expression_of c.in_ok-inside.inside.value)) ∷ v) (λ t q. refl)

pub closed-returns-clause-leads : goal.closed-returns-clause-leads
closed-returns-clause-leads t c = λ s v d. let o : Result Reading Stop = run 64 (an_expression (need mark.RightParenthesis ∷ s)) v (ahead c.args.cursor) in boxes read_expression s v c.closing.result c.boxed.result o c.boxed.ensures
    (closes read_expression mark.RightParenthesis s v c.whole-inside.result c.closing.result o c.closing.ensures (c.whole-inside.ensures.leads (need mark.RightParenthesis ∷ s) v d))

pub primary-returns-in_err-reference-clause-leads : goal.primary-returns-in_err-reference-clause-leads
primary-returns-in_err-reference-clause-leads t c = λ s v d. failed read_expression s v c.from_residual.result c.in_err-reference.field-0.0 c.from_residual.ensures.1
    (taken (Want PrimaryG ∷ s) v c.in-Some.ensures
    ∙ quiet c.in-Some.rest (reference_begun (name_of c.in-Some.name) s) (Want SubscriptsG ∷ Want SelectorG ∷ s) v (reference_read (name_of c.in-Some.name) v) (λ t q. refl))
    (c.in_err-reference.ensures.leads s v d)

pub primary-returns-in-Some-clause-leads : goal.primary-returns-in-Some-clause-leads
primary-returns-in-Some-clause-leads t c = λ s v d. taken (Want PrimaryG ∷ s) v c.in-Some.ensures
    ∙ quiet c.in-Some.rest (reference_begun (name_of c.in-Some.name) s) (Want SubscriptsG ∷ Want SelectorG ∷ s) v (reference_read (name_of c.in-Some.name) v) (λ t q. refl)
    ∙ c.in_ok-reference.ensures.leads s v d
    ∙ seen s v c.in_ok-reference.behind (ap ReferenceE (reference_laid c.in_ok-reference.reference))

pub primary-returns-in-Some-numeral-clause-leads : goal.primary-returns-in-Some-numeral-clause-leads
primary-returns-in-Some-numeral-clause-leads t c = λ s v d. taken (Want PrimaryG ∷ s) v c.in-Some-numeral.ensures
    ∙ quiet c.in-Some-numeral.rest (push (ExpressionR (NumeralE (number_of c.in-Some-numeral.number))) ∷ s) s v (ExpressionR (NumeralE (number_of c.in-Some-numeral.number)) ∷ v) (λ t q. refl)

pub primary-returns-in-Some-text-clause-leads : goal.primary-returns-in-Some-text-clause-leads
primary-returns-in-Some-text-clause-leads t c = λ s v d. taken (Want PrimaryG ∷ s) v c.in-Some-text.ensures
    ∙ quiet c.in-Some-text.rest (push (ExpressionR (TextE (text_of c.in-Some-text.text))) ∷ s) s v (ExpressionR (TextE (text_of c.in-Some-text.text)) ∷ v) (λ t q. refl)

pub primary-returns-in_err-level_down-clause-leads : goal.primary-returns-in_err-level_down-clause-leads
primary-returns-in_err-level_down-clause-leads t c = λ s v d. failed read_expression s v c.from_residual-in_err-level_down.result c.in_err-level_down.field-0.0 c.from_residual-in_err-level_down.ensures.1
    (taken (Want PrimaryG ∷ s) v c.in-Some-mark.ensures
    ∙ too_deep (depth s) c.args.room c.in-Some-mark.inner (run 64 (Want (InsideG c.in-Some-mark.place) ∷ Leave ∷ s) v (ahead c.in-Some-mark.inner)) d c.in_err-level_down.ensures.0)
    (depth_failure c.in_err-level_down.field-0.0 c.in-Some-mark.inner c.in_err-level_down.ensures.1 refl)

pub primary-returns-in-Some-mark-clause-leads : goal.primary-returns-in-Some-mark-clause-leads
primary-returns-in-Some-mark-clause-leads t c = λ s v d. arrives_left read_expression s v c.parenthesised.result
    (taken (Want PrimaryG ∷ s) v c.in-Some-mark.ensures
    ∙ entered (depth s) c.args.room c.in_ok-level_down.field-0 (length (ahead c.in-Some-mark.inner)) (run 64 (Want (InsideG c.in-Some-mark.place) ∷ Leave ∷ s) v (ahead c.in-Some-mark.inner)) d c.in_ok-level_down.ensures)
    (c.parenthesised.ensures.leads (Leave ∷ s) v (deeper (depth s) c.args.room c.in_ok-level_down.field-0 d c.in_ok-level_down.ensures))

pub primary-returns-clause-leads : goal.primary-returns-clause-leads
primary-returns-clause-leads t c = λ s v d. refusal c.refuse.result c.args.cursor c.refuse.ensures (refused PrimaryG c.args.cursor s v (primary_refused (next_of c.args.cursor) c.in_default.ensures c.in_default-numeral.ensures c.in_default-text.ensures c.in_default-mark.ensures c.in_default-form_at.ensures.0 c.in_default-form_at.ensures.1))

pub selector-returns-in_err-name-clause-leads : goal.selector-returns-in_err-name-clause-leads
selector-returns-in_err-name-clause-leads t c = λ n es s v d. failed (read_selector n es) s v c.from_residual.result c.in_err-name.field-0.0 c.from_residual.ensures.1
    (taken (Want SelectorG ∷ s) (ExpressionR (ReferenceE (ReferenceOf n es no_member)) ∷ v) c.in-Some.ensures
    ∙ refused MemberG c.in-Some.after s (ExpressionR (ReferenceE (ReferenceOf n es no_member)) ∷ v) (member_refused (next_of c.in-Some.after) c.in_err-name.ensures.0))
    (refusal c.in_err-name.field-0.0 c.in-Some.after c.in_err-name.ensures.1 refl)

pub selector-returns-in_err-level_down-clause-leads : goal.selector-returns-in_err-level_down-clause-leads
selector-returns-in_err-level_down-clause-leads t c = λ n es s v d. failed (read_selector n es) s v c.from_residual-in_err-level_down.result c.in_err-level_down.field-0.0 c.from_residual-in_err-level_down.ensures.1
    (taken (Want SelectorG ∷ s) (ExpressionR (ReferenceE (ReferenceOf n es no_member)) ∷ v) c.in-Some.ensures
    ∙ taken (Want MemberG ∷ s) (ExpressionR (ReferenceE (ReferenceOf n es no_member)) ∷ v) c.in_ok-name.ensures
    ∙ quiet c.in_ok-name.behind (Do (set_member (name_of c.in_ok-name.name)) ∷ Want MemberSubscriptG ∷ s) (Want MemberSubscriptG ∷ s) (ExpressionR (ReferenceE (ReferenceOf n es no_member)) ∷ v) (ExpressionR (ReferenceE (ReferenceOf n es (member (name_of c.in_ok-name.name)))) ∷ v) (λ t q. refl)
    ∙ taken (Want MemberSubscriptG ∷ s) (ExpressionR (ReferenceE (ReferenceOf n es (member (name_of c.in_ok-name.name)))) ∷ v) c.in-Some-mark.ensures
    ∙ too_deep (depth s) c.args.room c.in-Some-mark.inner (run 64 (an_expression (need mark.RightParenthesis ∷ Leave ∷ Do set_member_subscript ∷ s)) (ExpressionR (ReferenceE (ReferenceOf n es (member (name_of c.in_ok-name.name)))) ∷ v) (ahead c.in-Some-mark.inner)) d c.in_err-level_down.ensures.0)
    (depth_failure c.in_err-level_down.field-0.0 c.in-Some-mark.inner c.in_err-level_down.ensures.1 refl)

pub selector-returns-in_err-subscript-clause-leads : goal.selector-returns-in_err-subscript-clause-leads
selector-returns-in_err-subscript-clause-leads t c = λ n es s v d. failed (read_selector n es) s v c.from_residual-in_err-subscript.result c.in_err-subscript.field-0.0 c.from_residual-in_err-subscript.ensures.1
    (taken (Want SelectorG ∷ s) (ExpressionR (ReferenceE (ReferenceOf n es no_member)) ∷ v) c.in-Some.ensures
    ∙ taken (Want MemberG ∷ s) (ExpressionR (ReferenceE (ReferenceOf n es no_member)) ∷ v) c.in_ok-name.ensures
    ∙ quiet c.in_ok-name.behind (Do (set_member (name_of c.in_ok-name.name)) ∷ Want MemberSubscriptG ∷ s) (Want MemberSubscriptG ∷ s) (ExpressionR (ReferenceE (ReferenceOf n es no_member)) ∷ v) (ExpressionR (ReferenceE (ReferenceOf n es (member (name_of c.in_ok-name.name)))) ∷ v) (λ t q. refl)
    ∙ taken (Want MemberSubscriptG ∷ s) (ExpressionR (ReferenceE (ReferenceOf n es (member (name_of c.in_ok-name.name)))) ∷ v) c.in-Some-mark.ensures
    ∙ entered (depth s) c.args.room c.in_ok-level_down.field-0 (length (ahead c.in-Some-mark.inner)) (run 64 (an_expression (need mark.RightParenthesis ∷ Leave ∷ Do set_member_subscript ∷ s)) (ExpressionR (ReferenceE (ReferenceOf n es (member (name_of c.in_ok-name.name)))) ∷ v) (ahead c.in-Some-mark.inner)) d c.in_ok-level_down.ensures)
    (c.in_err-subscript.ensures.leads (Leave ∷ Do set_member_subscript ∷ s) (ExpressionR (ReferenceE (ReferenceOf n es (member (name_of c.in_ok-name.name)))) ∷ v) (deeper (depth s) c.args.room c.in_ok-level_down.field-0 d c.in_ok-level_down.ensures))

pub selector-returns-clause-leads : goal.selector-returns-clause-leads
selector-returns-clause-leads t c = λ n es s v d. taken (Want SelectorG ∷ s) (ExpressionR (ReferenceE (ReferenceOf n es no_member)) ∷ v) c.in-Some.ensures
    ∙ taken (Want MemberG ∷ s) (ExpressionR (ReferenceE (ReferenceOf n es no_member)) ∷ v) c.in_ok-name.ensures
    ∙ quiet c.in_ok-name.behind (Do (set_member (name_of c.in_ok-name.name)) ∷ Want MemberSubscriptG ∷ s) (Want MemberSubscriptG ∷ s) (ExpressionR (ReferenceE (ReferenceOf n es no_member)) ∷ v) (ExpressionR (ReferenceE (ReferenceOf n es (member (name_of c.in_ok-name.name)))) ∷ v) (λ t q. refl)
    ∙ taken (Want MemberSubscriptG ∷ s) (ExpressionR (ReferenceE (ReferenceOf n es (member (name_of c.in_ok-name.name)))) ∷ v) c.in-Some-mark.ensures
    ∙ entered (depth s) c.args.room c.in_ok-level_down.field-0 (length (ahead c.in-Some-mark.inner)) (run 64 (an_expression (need mark.RightParenthesis ∷ Leave ∷ Do set_member_subscript ∷ s)) (ExpressionR (ReferenceE (ReferenceOf n es (member (name_of c.in_ok-name.name)))) ∷ v) (ahead c.in-Some-mark.inner)) d c.in_ok-level_down.ensures
    ∙ c.in_ok-subscript.ensures.leads (Leave ∷ Do set_member_subscript ∷ s) (ExpressionR (ReferenceE (ReferenceOf n es (member (name_of c.in_ok-name.name)))) ∷ v) (deeper (depth s) c.args.room c.in_ok-level_down.field-0 d c.in_ok-level_down.ensures)
    ∙ quiet c.in_ok-subscript.rest (Leave ∷ Do set_member_subscript ∷ s) s (read_boxed c.in_ok-subscript.subscript (ExpressionR (ReferenceE (ReferenceOf n es (member (name_of c.in_ok-name.name)))) ∷ v)) (ExpressionR (ReferenceE (ReferenceOf n es (member_at (name_of c.in_ok-name.name) (expression_of c.in_ok-subscript.subscript.value)))) ∷ v) (λ t q. refl)

pub signed-returns-in_err-level_down-clause-leads : goal.signed-returns-in_err-level_down-clause-leads
signed-returns-in_err-level_down-clause-leads t c = λ s v d. failed read_expression s v c.from_residual.result c.in_err-level_down.field-0.0 c.from_residual.ensures.1
    (taken (Want SignedG ∷ s) v c.in-Some.ensures
    ∙ too_deep (depth s) c.args.room c.in-Some.inner (run 64 (Want PrimaryG ∷ Leave ∷ Do (make_unary c.in-Some.place unary.Plus) ∷ s) v (ahead c.in-Some.inner)) d c.in_err-level_down.ensures.0)
    (depth_failure c.in_err-level_down.field-0.0 c.in-Some.inner c.in_err-level_down.ensures.1 refl)

pub signed-returns-in-Some-clause-leads : goal.signed-returns-in-Some-clause-leads
signed-returns-in-Some-clause-leads t c = λ s v d. arrives_behind read_expression s v c.unary.result
    (taken (Want SignedG ∷ s) v c.in-Some.ensures
    ∙ entered (depth s) c.args.room c.in_ok-level_down.field-0 (length (ahead c.in-Some.inner)) (run 64 (Want PrimaryG ∷ Leave ∷ Do (make_unary c.in-Some.place unary.Plus) ∷ s) v (ahead c.in-Some.inner)) d c.in_ok-level_down.ensures)
    (operated c.in-Some.place unary.Plus s (Leave ∷ Do (make_unary c.in-Some.place unary.Plus) ∷ s) v c.primary-operand.result c.unary.result (run 64 (Want PrimaryG ∷ Leave ∷ Do (make_unary c.in-Some.place unary.Plus) ∷ s) v (ahead c.in-Some.inner)) c.unary.ensures
    (λ y b. quiet b (Leave ∷ Do (make_unary c.in-Some.place unary.Plus) ∷ s) s (read_expression y v) (ExpressionR (UnaryE c.in-Some.place unary.Plus (expression_of y)) ∷ v) (λ t q. refl))
    (c.primary-operand.ensures.leads (Leave ∷ Do (make_unary c.in-Some.place unary.Plus) ∷ s) v (deeper (depth s) c.args.room c.in_ok-level_down.field-0 d c.in_ok-level_down.ensures)))

pub signed-returns-in_err-level_down-2-clause-leads : goal.signed-returns-in_err-level_down-2-clause-leads
signed-returns-in_err-level_down-2-clause-leads t c = λ s v d. failed read_expression s v c.from_residual-in_err-level_down-2.result c.in_err-level_down-2.field-0.0 c.from_residual-in_err-level_down-2.ensures.1
    (taken (Want SignedG ∷ s) v c.in-Some-mark.ensures
    ∙ too_deep (depth s) c.args.room c.in-Some-mark.inner (run 64 (Want PrimaryG ∷ Leave ∷ Do (make_unary c.in-Some-mark.place unary.Minus) ∷ s) v (ahead c.in-Some-mark.inner)) d c.in_err-level_down-2.ensures.0)
    (depth_failure c.in_err-level_down-2.field-0.0 c.in-Some-mark.inner c.in_err-level_down-2.ensures.1 refl)

pub signed-returns-in-Some-mark-clause-leads : goal.signed-returns-in-Some-mark-clause-leads
signed-returns-in-Some-mark-clause-leads t c = λ s v d. arrives_behind read_expression s v c.unary-in-Some-mark.result
    (taken (Want SignedG ∷ s) v c.in-Some-mark.ensures
    ∙ entered (depth s) c.args.room c.in_ok-level_down-2.field-0 (length (ahead c.in-Some-mark.inner)) (run 64 (Want PrimaryG ∷ Leave ∷ Do (make_unary c.in-Some-mark.place unary.Minus) ∷ s) v (ahead c.in-Some-mark.inner)) d c.in_ok-level_down-2.ensures)
    (operated c.in-Some-mark.place unary.Minus s (Leave ∷ Do (make_unary c.in-Some-mark.place unary.Minus) ∷ s) v c.primary-operand-in-Some-mark.result c.unary-in-Some-mark.result (run 64 (Want PrimaryG ∷ Leave ∷ Do (make_unary c.in-Some-mark.place unary.Minus) ∷ s) v (ahead c.in-Some-mark.inner)) c.unary-in-Some-mark.ensures
    (λ y b. quiet b (Leave ∷ Do (make_unary c.in-Some-mark.place unary.Minus) ∷ s) s (read_expression y v) (ExpressionR (UnaryE c.in-Some-mark.place unary.Minus (expression_of y)) ∷ v) (λ t q. refl))
    (c.primary-operand-in-Some-mark.ensures.leads (Leave ∷ Do (make_unary c.in-Some-mark.place unary.Minus) ∷ s) v (deeper (depth s) c.args.room c.in_ok-level_down-2.field-0 d c.in_ok-level_down-2.ensures)))

pub signed-returns-clause-leads : goal.signed-returns-clause-leads
signed-returns-clause-leads t c = λ s v d. arrives_behind read_expression s v c.primary.result (signed_goes c.args.cursor s v c.in_default.ensures c.in_default-mark.ensures) (c.primary.ensures.leads s v d)

pub subscripts-returns-in_err-inside-clause-leads : goal.subscripts-returns-in_err-inside-clause-leads
subscripts-returns-in_err-inside-clause-leads t c = λ n s v d. failed (λ es. read_subscripts n es.items) s v c.from_residual.result c.in_err-inside.field-0.0 c.from_residual.ensures.1
    (taken (Want SubscriptsG ∷ s) (reference_read n v) c.in-Some.ensures
    ∙ too_deep (depth s) c.args.room c.in-Some.inner (run 64 (push (ExpressionsR no_expressions) ∷ an_expression (Do add_expression ∷ Want MoreSubscriptsG ∷ Leave ∷ Do set_subscripts ∷ s)) (reference_read n v) (ahead c.in-Some.inner)) d c.in_err-inside.ensures.0)
    (depth_failure c.in_err-inside.field-0.0 c.in-Some.inner c.in_err-inside.ensures.1 refl)

pub subscripts-returns-in_err-rest-clause-leads : goal.subscripts-returns-in_err-rest-clause-leads
subscripts-returns-in_err-rest-clause-leads t c = λ n s v d. failed (λ es. read_subscripts n es.items) s v c.from_residual-in_err-rest.result c.in_err-rest.field-0.0 c.from_residual-in_err-rest.ensures.1
    (taken (Want SubscriptsG ∷ s) (reference_read n v) c.in-Some.ensures
    ∙ entered (depth s) c.args.room c.in_ok-inside.inside (length (ahead c.in-Some.inner)) (run 64 (push (ExpressionsR no_expressions) ∷ an_expression (Do add_expression ∷ Want MoreSubscriptsG ∷ Leave ∷ Do set_subscripts ∷ s)) (reference_read n v) (ahead c.in-Some.inner)) d c.in_ok-inside.ensures
    ∙ quiet c.in-Some.inner (push (ExpressionsR no_expressions) ∷ an_expression (Do add_expression ∷ Want MoreSubscriptsG ∷ Leave ∷ Do set_subscripts ∷ s)) (an_expression (Do add_expression ∷ Want MoreSubscriptsG ∷ Leave ∷ Do set_subscripts ∷ s)) (reference_read n v) (ExpressionsR no_expressions ∷ reference_read n v) (λ t q. refl))
    (lost read_expression (Do add_expression ∷ Want MoreSubscriptsG ∷ Leave ∷ Do set_subscripts ∷ s) (ExpressionsR no_expressions ∷ reference_read n v) c.whole.result c.in_err-rest.field-0.0 (run 64 (an_expression (Do add_expression ∷ Want MoreSubscriptsG ∷ Leave ∷ Do set_subscripts ∷ s)) (ExpressionsR no_expressions ∷ reference_read n v) (ahead c.in-Some.inner)) c.in_err-rest.ensures (c.whole.ensures.leads (Do add_expression ∷ Want MoreSubscriptsG ∷ Leave ∷ Do set_subscripts ∷ s) (ExpressionsR no_expressions ∷ reference_read n v) (deeper (depth s) c.args.room c.in_ok-inside.inside d c.in_ok-inside.ensures)))

pub subscripts-returns-in_err-list-clause-leads : goal.subscripts-returns-in_err-list-clause-leads
subscripts-returns-in_err-list-clause-leads t c = λ n s v d. out_of_memory (λ es. read_subscripts n es.items) s v c.from_residual-in_err-list.result (run 64 (Want SubscriptsG ∷ s) (reference_read n v) (ahead c.args.cursor)) c.from_residual-in_err-list.ensures.1

pub subscripts-loop-after-init : goal.subscripts-loop-after-init
subscripts-loop-after-init t c = record {
  leads = λ n s v d. taken (Want SubscriptsG ∷ s) (reference_read n v) c.in-Some.ensures
      ∙ entered (depth s) c.args.room c.in_ok-inside.inside (length (ahead c.in-Some.inner)) (run 64 (push (ExpressionsR no_expressions) ∷ an_expression (Do add_expression ∷ Want MoreSubscriptsG ∷ Leave ∷ Do set_subscripts ∷ s)) (reference_read n v) (ahead c.in-Some.inner)) d c.in_ok-inside.ensures
      ∙ quiet c.in-Some.inner (push (ExpressionsR no_expressions) ∷ an_expression (Do add_expression ∷ Want MoreSubscriptsG ∷ Leave ∷ Do set_subscripts ∷ s)) (an_expression (Do add_expression ∷ Want MoreSubscriptsG ∷ Leave ∷ Do set_subscripts ∷ s)) (reference_read n v) (ExpressionsR no_expressions ∷ reference_read n v) (λ t q. refl)
      ∙ arrived read_expression (Do add_expression ∷ Want MoreSubscriptsG ∷ Leave ∷ Do set_subscripts ∷ s) (ExpressionsR no_expressions ∷ reference_read n v) c.in_ok-rest.ensures.1.0 (c.whole.ensures.leads (Do add_expression ∷ Want MoreSubscriptsG ∷ Leave ∷ Do set_subscripts ∷ s) (ExpressionsR no_expressions ∷ reference_read n v) (deeper (depth s) c.args.room c.in_ok-inside.inside d c.in_ok-inside.ensures))
      ∙ quiet c.in_ok-rest.rest (Do add_expression ∷ Want MoreSubscriptsG ∷ Leave ∷ Do set_subscripts ∷ s) (Want MoreSubscriptsG ∷ Leave ∷ Do set_subscripts ∷ s) (read_expression c.in_ok-rest.ensures.0 (ExpressionsR no_expressions ∷ reference_read n v)) (ExpressionsR (expressions no_expressions (expression_of c.in_ok-rest.ensures.0)) ∷ (reference_read n v)) (λ t q. refl)
      ∙ ap (λ (es : List Expression). run 64 (Want MoreSubscriptsG ∷ Leave ∷ Do set_subscripts ∷ s) (ExpressionsR (expressions_of es) ∷ (reference_read n v)) (ahead c.in_ok-rest.rest)) (sym (c.in_ok-rest.ensures.1.1 ∙ ap (λ (es : List Expression). es ++ c.in_ok-rest.ensures.0 ∷ []) c.in_ok-list.ensures.items));
  inside = c.in_ok-inside.ensures;
  shorter = omega (arith, c.in-Some.ensures.shorter, stays_within c.in-Some.inner c.in_ok-rest.ensures.1.0 c.whole.ensures.within);
}

pub subscripts-loop-after-preserved : goal.subscripts-loop-after-preserved
subscripts-loop-after-preserved t c = record {
  leads = λ n s v d. c.loop-after.invariant.leads n s v d
      ∙ taken (Want MoreSubscriptsG ∷ Leave ∷ Do set_subscripts ∷ s) (ExpressionsR (expressions_of c.loop-after.list.items) ∷ reference_read n v) c.in-Some-mark.ensures
      ∙ arrived read_expression (Do add_expression ∷ Want MoreSubscriptsG ∷ Leave ∷ Do set_subscripts ∷ s) (ExpressionsR (expressions_of c.loop-after.list.items) ∷ reference_read n v) c.in_ok-rest-2.ensures.1.0 (c.whole-in-Some-mark.ensures.leads (Do add_expression ∷ Want MoreSubscriptsG ∷ Leave ∷ Do set_subscripts ∷ s) (ExpressionsR (expressions_of c.loop-after.list.items) ∷ reference_read n v) (deeper (depth s) c.args.room c.in_ok-inside.inside d c.in_ok-inside.ensures))
      ∙ quiet c.in_ok-rest-2.rest (Do add_expression ∷ Want MoreSubscriptsG ∷ Leave ∷ Do set_subscripts ∷ s) (Want MoreSubscriptsG ∷ Leave ∷ Do set_subscripts ∷ s) (read_expression c.in_ok-rest-2.ensures.0 (ExpressionsR (expressions_of c.loop-after.list.items) ∷ reference_read n v)) (ExpressionsR (expressions (expressions_of c.loop-after.list.items) (expression_of c.in_ok-rest-2.ensures.0)) ∷ (reference_read n v)) (λ t q. refl)
      ∙ ap (λ (es : ExpressionsT). run 64 (Want MoreSubscriptsG ∷ Leave ∷ Do set_subscripts ∷ s) (ExpressionsR es ∷ (reference_read n v)) (ahead c.in_ok-rest-2.rest)) (sym (expression_pushed c.loop-after.list.items c.in_ok-rest-2.ensures.0 no_expressions))
      ∙ ap (λ (es : List Expression). run 64 (Want MoreSubscriptsG ∷ Leave ∷ Do set_subscripts ∷ s) (ExpressionsR (expressions_of es) ∷ (reference_read n v)) (ahead c.in_ok-rest-2.rest)) (sym c.in_ok-rest-2.ensures.1.1);
  inside = c.loop-after.invariant.inside;
  shorter = omega (arith, c.loop-after.invariant.shorter, c.in-Some-mark.ensures.shorter, stays_within c.in-Some-mark.after c.in_ok-rest-2.ensures.1.0 c.whole-in-Some-mark.ensures.within);
}

pub subscripts-returns-in_err-rest-2-clause-leads : goal.subscripts-returns-in_err-rest-2-clause-leads
subscripts-returns-in_err-rest-2-clause-leads t c = λ n s v d. failed (λ es. read_subscripts n es.items) s v c.from_residual-in_err-rest-2.result c.in_err-rest-2.field-0.0 c.from_residual-in_err-rest-2.ensures.1
    (c.loop-after.invariant.leads n s v d
    ∙ taken (Want MoreSubscriptsG ∷ Leave ∷ Do set_subscripts ∷ s) (ExpressionsR (expressions_of c.loop-after.list.items) ∷ reference_read n v) c.in-Some-mark.ensures)
    (lost read_expression (Do add_expression ∷ Want MoreSubscriptsG ∷ Leave ∷ Do set_subscripts ∷ s) (ExpressionsR (expressions_of c.loop-after.list.items) ∷ reference_read n v) c.whole-in-Some-mark.result c.in_err-rest-2.field-0.0 (run 64 (an_expression (Do add_expression ∷ Want MoreSubscriptsG ∷ Leave ∷ Do set_subscripts ∷ s)) (ExpressionsR (expressions_of c.loop-after.list.items) ∷ reference_read n v) (ahead c.in-Some-mark.after)) c.in_err-rest-2.ensures (c.whole-in-Some-mark.ensures.leads (Do add_expression ∷ Want MoreSubscriptsG ∷ Leave ∷ Do set_subscripts ∷ s) (ExpressionsR (expressions_of c.loop-after.list.items) ∷ reference_read n v) (deeper (depth s) c.args.room c.in_ok-inside.inside d c.in_ok-inside.ensures)))

pub subscripts-returns-clause-leads : goal.subscripts-returns-clause-leads
subscripts-returns-clause-leads t c = λ n s v d. closes_by (λ es. read_subscripts n es.items) mark.RightParenthesis s v c.loop-after.list c.loop-after.rest c.close.result c.close.ensures
    (λ q. c.loop-after.invariant.leads n s v d
    ∙ refused MoreSubscriptsG c.loop-after.rest (Leave ∷ Do set_subscripts ∷ s) (ExpressionsR (expressions_of c.loop-after.list.items) ∷ reference_read n v) (more_subscripts_refused (next_of c.loop-after.rest) c.in_default-mark.ensures q))
    (λ p b h. c.loop-after.invariant.leads n s v d
    ∙ taken (Want MoreSubscriptsG ∷ Leave ∷ Do set_subscripts ∷ s) (ExpressionsR (expressions_of c.loop-after.list.items) ∷ reference_read n v) h
    ∙ quiet b (Leave ∷ Do set_subscripts ∷ s) s (ExpressionsR (expressions_of c.loop-after.list.items) ∷ reference_read n v) (read_subscripts n c.loop-after.list.items v) (λ t q. refl))

pub subscripts-returns-clause-within : goal.subscripts-returns-clause-within
subscripts-returns-clause-within t c = closes_within mark.RightParenthesis c.args.cursor (Ok (c.loop-after.list, c.loop-after.rest)) c.close.result c.close.ensures (omega (arith, c.loop-after.invariant.shorter))

pub value-returns-in-Some-clause-leads : goal.value-returns-in-Some-clause-leads
value-returns-in-Some-clause-leads t c = λ s v d. taken (Want ValueG ∷ s) v c.in-Some.ensures
    ∙ quiet c.in-Some.rest (push (ValueR (NumeralV (number_of c.in-Some.number))) ∷ s) s v (ValueR (NumeralV (number_of c.in-Some.number)) ∷ v) (λ t q. refl)

pub value-returns-in-Some-text-clause-leads : goal.value-returns-in-Some-text-clause-leads
value-returns-in-Some-text-clause-leads t c = λ s v d. taken (Want ValueG ∷ s) v c.in-Some-text.ensures
    ∙ quiet c.in-Some-text.rest (push (ValueR (TextV (text_of c.in-Some-text.text))) ∷ s) s v (ValueR (TextV (text_of c.in-Some-text.text)) ∷ v) (λ t q. refl)

pub value-returns-in_err-number-clause-leads : goal.value-returns-in_err-number-clause-leads
value-returns-in_err-number-clause-leads t c = λ s v d. failed read_value s v c.from_residual.result c.in_err-number.field-0.0 c.from_residual.ensures.1
    (taken (Want ValueG ∷ s) v c.in-Some-mark.ensures
    ∙ refused NegativeG c.in-Some-mark.after s v (negative_refused (next_of c.in-Some-mark.after) c.in_err-number.ensures.0))
    (refusal c.in_err-number.field-0.0 c.in-Some-mark.after c.in_err-number.ensures.1 refl)

pub value-returns-in-Some-mark-clause-leads : goal.value-returns-in-Some-mark-clause-leads
value-returns-in-Some-mark-clause-leads t c = λ s v d. taken (Want ValueG ∷ s) v c.in-Some-mark.ensures
    ∙ taken (Want NegativeG ∷ s) v c.in_ok-number.ensures
    ∙ quiet c.in_ok-number.rest (push (ValueR (NegativeV (number_of c.in_ok-number.number))) ∷ s) s v (ValueR (NegativeV (number_of c.in_ok-number.number)) ∷ v) (λ t q. refl)

pub value-returns-in-Some-form_at-clause-leads : goal.value-returns-in-Some-form_at-clause-leads
value-returns-in-Some-form_at-clause-leads t c = λ s v d. taken (Want ValueG ∷ s) v c.in-Some-form_at.ensures
    ∙ located_value c.in-Some-form_at.form c.in-Some-form_at.place s v (ahead c.in-Some-form_at.after)
    ∙ c.in_ok-location.ensures.leads (Do location_value ∷ s) v d
    ∙ quiet c.in_ok-location.rest (Do location_value ∷ s) s (read_location c.in_ok-location.location v) (ValueR (LocationV (location_of c.in_ok-location.location)) ∷ v) (λ t q. refl)

pub value-returns-clause-leads : goal.value-returns-clause-leads
value-returns-clause-leads t c = λ s v d. refusal c.refuse.result c.args.cursor c.refuse.ensures (refused ValueG c.args.cursor s v (value_refused (next_of c.args.cursor) c.in_default.ensures c.in_default-text.ensures c.in_default-mark.ensures c.in_default-form_at.ensures.0 c.in_default-form_at.ensures.1))

pub values-returns-in_err-rest-clause-leads : goal.values-returns-in_err-rest-clause-leads
values-returns-in_err-rest-clause-leads t c = λ s v d. failed (λ ws. read_values ws.items) s v c.from_residual.result c.in_err-rest.field-0.0 c.from_residual.ensures.1
    (quiet c.args.cursor (a_value_list s) (Want ValueG ∷ Do add_value ∷ Want MoreValuesG ∷ s) v (ValuesR no_values ∷ v) (λ t q. refl))
    (lost read_value (Do add_value ∷ Want MoreValuesG ∷ s) (ValuesR no_values ∷ v) c.value.result c.in_err-rest.field-0.0 (run 64 (Want ValueG ∷ Do add_value ∷ Want MoreValuesG ∷ s) (ValuesR no_values ∷ v) (ahead c.args.cursor)) c.in_err-rest.ensures (c.value.ensures.leads (Do add_value ∷ Want MoreValuesG ∷ s) (ValuesR no_values ∷ v) d))

pub values-loop-after-init : goal.values-loop-after-init
values-loop-after-init t c = record {
  leads = λ s v d. quiet c.args.cursor (a_value_list s) (Want ValueG ∷ Do add_value ∷ Want MoreValuesG ∷ s) v (ValuesR no_values ∷ v) (λ t q. refl)
      ∙ arrived read_value (Do add_value ∷ Want MoreValuesG ∷ s) (ValuesR no_values ∷ v) c.in_ok-rest.ensures.1.0 (c.value.ensures.leads (Do add_value ∷ Want MoreValuesG ∷ s) (ValuesR no_values ∷ v) d)
      ∙ quiet c.in_ok-rest.rest (Do add_value ∷ Want MoreValuesG ∷ s) (Want MoreValuesG ∷ s) (read_value c.in_ok-rest.ensures.0 (ValuesR no_values ∷ v)) (ValuesR (values no_values (value_of c.in_ok-rest.ensures.0)) ∷ v) (λ t q. refl)
      ∙ ap (λ (ws : List ValueTree). run 64 (Want MoreValuesG ∷ s) (ValuesR (values_of ws) ∷ v) (ahead c.in_ok-rest.rest)) (sym (c.in_ok-rest.ensures.1.1 ∙ ap (λ (ws : List ValueTree). ws ++ c.in_ok-rest.ensures.0 ∷ []) c.new-list.ensures.items));
  shorter = stays_within c.args.cursor c.in_ok-rest.ensures.1.0 c.value.ensures.within;
}

pub values-loop-after-preserved : goal.values-loop-after-preserved
values-loop-after-preserved t c = record {
  leads = λ s v d. c.loop-after.invariant.leads s v d
      ∙ taken (Want MoreValuesG ∷ s) (ValuesR (values_of c.loop-after.list.items) ∷ v) c.in-Some.ensures
      ∙ arrived read_value (Do add_value ∷ Want MoreValuesG ∷ s) (ValuesR (values_of c.loop-after.list.items) ∷ v) c.in_ok-rest-2.ensures.1.0 (c.value-in-Some.ensures.leads (Do add_value ∷ Want MoreValuesG ∷ s) (ValuesR (values_of c.loop-after.list.items) ∷ v) d)
      ∙ quiet c.in_ok-rest-2.rest (Do add_value ∷ Want MoreValuesG ∷ s) (Want MoreValuesG ∷ s) (read_value c.in_ok-rest-2.ensures.0 (ValuesR (values_of c.loop-after.list.items) ∷ v)) (ValuesR (values (values_of c.loop-after.list.items) (value_of c.in_ok-rest-2.ensures.0)) ∷ v) (λ t q. refl)
      ∙ ap (λ (ws : ValuesT). run 64 (Want MoreValuesG ∷ s) (ValuesR ws ∷ v) (ahead c.in_ok-rest-2.rest)) (sym (value_pushed c.loop-after.list.items c.in_ok-rest-2.ensures.0 no_values))
      ∙ ap (λ (ws : List ValueTree). run 64 (Want MoreValuesG ∷ s) (ValuesR (values_of ws) ∷ v) (ahead c.in_ok-rest-2.rest)) (sym c.in_ok-rest-2.ensures.1.1);
  shorter = omega (arith, c.loop-after.invariant.shorter, c.in-Some.ensures.shorter, stays_within c.in-Some.after c.in_ok-rest-2.ensures.1.0 c.value-in-Some.ensures.within);
}

pub values-returns-in_err-rest-2-clause-leads : goal.values-returns-in_err-rest-2-clause-leads
values-returns-in_err-rest-2-clause-leads t c = λ s v d. failed (λ ws. read_values ws.items) s v c.from_residual-in_err-rest-2.result c.in_err-rest-2.field-0.0 c.from_residual-in_err-rest-2.ensures.1
    (c.loop-after.invariant.leads s v d
    ∙ taken (Want MoreValuesG ∷ s) (ValuesR (values_of c.loop-after.list.items) ∷ v) c.in-Some.ensures)
    (lost read_value (Do add_value ∷ Want MoreValuesG ∷ s) (ValuesR (values_of c.loop-after.list.items) ∷ v) c.value-in-Some.result c.in_err-rest-2.field-0.0 (run 64 (Want ValueG ∷ Do add_value ∷ Want MoreValuesG ∷ s) (ValuesR (values_of c.loop-after.list.items) ∷ v) (ahead c.in-Some.after)) c.in_err-rest-2.ensures (c.value-in-Some.ensures.leads (Do add_value ∷ Want MoreValuesG ∷ s) (ValuesR (values_of c.loop-after.list.items) ∷ v) d))

pub values-returns-clause-leads : goal.values-returns-clause-leads
values-returns-clause-leads t c = λ s v d. closes_by (λ ws. read_values ws.items) mark.RightParenthesis s v c.loop-after.list c.loop-after.rest c.close.result c.close.ensures
    (λ q. c.loop-after.invariant.leads s v d
    ∙ refused MoreValuesG c.loop-after.rest s (ValuesR (values_of c.loop-after.list.items) ∷ v) (more_values_refused (next_of c.loop-after.rest) c.in_default.ensures q))
    (λ p b h. c.loop-after.invariant.leads s v d
    ∙ taken (Want MoreValuesG ∷ s) (ValuesR (values_of c.loop-after.list.items) ∷ v) h)

pub values-returns-clause-within : goal.values-returns-clause-within
values-returns-clause-within t c = closes_within mark.RightParenthesis c.args.cursor (Ok (c.loop-after.list, c.loop-after.rest)) c.close.result c.close.ensures c.loop-after.invariant.shorter

pub more-returns-then-is_empty-clause-leads : goal.more-returns-then-is_empty-clause-leads
more-returns-then-is_empty-clause-leads t c = λ s v d. let e : c.in_ok-left.others.items ≡ [] = grind (arith, common_steps, c.is_empty.ensures) in arrived (λ (os : Vec Operation). read_operations (expression_of c.args.first) os.items) s v c.in_ok-left.ensures.1 (c.operations.ensures.leads (expression_of c.args.first) s v d)
    ∙ ap (λ (os : List Operation). run 64 s (read_operations (expression_of c.args.first) os v) (ahead c.in_ok-left.rest)) e
    ∙ seen s v c.in_ok-left.rest (ap expression_of (sym c.in_ok-left.ensures.0))

pub more-returns-in_default-clause-leads : goal.more-returns-in_default-clause-leads
more-returns-in_default-clause-leads t c = λ s v d. passed_over (MoreG (precedence_view c.args.precedence)) c.args.cursor s (read_expression c.args.first v) c.in_default.ensures

pub whole-returns-in_err-first-clause-leads : goal.whole-returns-in_err-first-clause-leads
whole-returns-in_err-first-clause-leads t c = λ s v d. failed read_expression s v c.from_residual.result c.in_err-first.field-0.0 c.from_residual.ensures.1
    (negation_goes c.args.cursor (Want (MoreG Conjunctions) ∷ Want (MoreG Disjunctions) ∷ s) v c.in_default.ensures)
    (c.in_err-first.ensures.leads (all_precedences s) v d)

pub whole-returns-clause-leads : goal.whole-returns-clause-leads
whole-returns-clause-leads t c = λ s v d. arrives_behind read_expression s v c.climb.result
    (negation_goes c.args.cursor (Want (MoreG Conjunctions) ∷ Want (MoreG Disjunctions) ∷ s) v c.in_default.ensures ∙ c.in_ok-first.ensures.leads (all_precedences s) v d)
    (c.climb.ensures.leads s v d)

pub climb-returns-in-Some-clause-leads : goal.climb-returns-in-Some-clause-leads
climb-returns-in-Some-clause-leads t c = λ s v d. arrives_behind read_expression s v c.climb_from.result
    (first_operator (precedence_view c.in-Some.precedence) c.args.cursor s (read_expression c.args.first v) (sym c.in-Some.ensures))
    (c.climb_from.ensures.leads s v d)

pub climb-returns-in-None-clause-leads : goal.climb-returns-in-None-clause-leads
climb-returns-in-None-clause-leads t c = λ s v d. all_over c.args.cursor s (read_expression c.args.first v) (no_level (next_of c.args.cursor) (sym c.in-None.ensures))

pub climb_from-returns-in_err-left-clause-leads : goal.climb_from-returns-in_err-left-clause-leads
climb_from-returns-in_err-left-clause-leads t c = λ s v d. let l = precedence_view c.args.precedence in failed read_expression s v c.from_residual.result c.in_err-left.field-0.0 c.from_residual.ensures.1 refl
    (c.in_err-left.ensures.leads (looser_than l s) v (ap (λ (n : ℕ). n + c.args.room) (depth_looser l s) ∙ d))

pub climb_from-returns-in-Some-clause-leads : goal.climb_from-returns-in-Some-clause-leads
climb_from-returns-in-Some-clause-leads t c = λ s v d. let l = precedence_view c.args.precedence in arrives_behind read_expression s v c.climb_from.result
    (c.in_ok-left.ensures.leads (looser_than l s) v (ap (λ (n : ℕ). n + c.args.room) (depth_looser l s) ∙ d)
    ∙ looser_operator l (precedence_view c.in-Some.next) c.in_ok-left.rest s (read_expression c.in_ok-left.left v) (sym c.in-Some.ensures.level))
    (c.climb_from.ensures.leads s v d)

pub climb_from-returns-in-None-clause-leads : goal.climb_from-returns-in-None-clause-leads
climb_from-returns-in-None-clause-leads t c = λ s v d. let l = precedence_view c.args.precedence in
    c.in_ok-left.ensures.leads (looser_than l s) v (ap (λ (n : ℕ). n + c.args.room) (depth_looser l s) ∙ d)
    ∙ no_looser l c.in_ok-left.rest s (read_expression c.in_ok-left.left v) (sym c.in-None.ensures.level)
