use Rattle.std.proofs.Common.{◌≡◌, inl, inr, ◌+◌, ◌∷◌, [], ◌++◌, not, List, Option, option_map, Result, IfOk, drop, append_assoc, refl, subst, sym, ap, ◌∙◌}
use Rattle.std.proofs.lemmas.List.{append-nil, drop_all}
use Rattle.word86.specs.declared.number.Number.TheVariants.{E401, E402}
use Rattle.plm_decl.specs.declared.layout.ScalarType.{ScalarType}
use Rattle.plm_decl.specs.declared.found.Found.{Found}
use Rattle.plm_decl.specs.declared.resolved.Binding.{Binding}
use Rattle.plm_decl.specs.declared.resolved.Expression as declared_resolved
use Rattle.plm_decl.specs.declared.resolved.Reference.{Reference}
use Rattle.plm_decl.specs.Names.{procedure_of}
use Rattle.plm_decl.specs.Resolved.{ExpressionR, TextR, ReferenceR, ParenthesisedR, ReferenceR', Use, ExpressionsR, LocationR', LocationOf}
use Rattle.plm_decl.specs.ResolvedView as resolved
use Rattle.plm_type.specs.declared.program.Expression.{Expression}
use Rattle.plm_type.specs.declared.typer.Typed as declared
use Rattle.plm_type.specs.declared.typer.Typer.{Typer}
use Rattle.plm_type.specs.Rest as rest
use Rattle.plm_type.specs.View as view
use Rattle.plm_type.specs.Typing.{given_if, is_target, is_plain, first_type, other_types, wanted_arguments, parameters_wanted}
use Rattle.plm_type.specs.Faults as found
use Rattle.plm_type.specs.Typer.{Typed, TypedList}
use Rattle.plm_type.specs.Expressions as spec
use Rattle.plm_type.specs.Inner.Typer.{variables, procedures, sizes, said, target_said, list_said, after, target_after, list_after, typed_by, list_by, given_by, selector_by, parts_by, value_by, arguments_by, argument_by, location_by, target_by}
use Rattle.plm_type.specs.Inner.Chains.{chain}
use Rattle.plm_type.proofs.Lists.{drop_at, one_is, many_are, expressions_at, given_taken, trees_before, trees_pushed, trees_all, list_before}
use Rattle.plm_type.proofs.Leaning.{leaned_after, leaned_alone, leaned_joined}
use Rattle.plm_type.proofs.Parts.{is_zero, not_zero}
use Rattle.plm_type.proofs.Said.{typed_moved, target_moved, typed_at, typed_with, own_after, target_own_after, embedded_said, joined_said, parts_made, wanted_after}
use Rattle.plm_type.proofs.typer.Typer.+expression.Goals as goal

-- what is said of an expression, said of what it is
spoken : {E : Type 0} (self : Typer) (old : List Found) (r : Result declared.Typed E) (noted : List Found) {e f : ExpressionR} → e ≡ f
    → IfOk r (λ x. said x noted ≡ after old (typed_by self e)) → IfOk r (λ x. said x noted ≡ after old (typed_by self f))
spoken self old r noted is h = typed_moved r noted (ap (λ (x : ExpressionR). after old (typed_by self x)) is) h

-- ---- expressions

pub expression-returns-in-Number : goal.expression-returns-in-Number
expression-returns-in-Number t c =
    spoken c.args.self.now c.args.faults.now.items c.number.result c.number.new.faults.items (sym (ap resolved.expression_of c.in-Number.is)) c.number.ensures

pub expression-returns-in-Text : goal.expression-returns-in-Text
expression-returns-in-Text t c =
    let is = ap (TextR c.in-Text.place) c.deref.ensures.value ∙ sym (ap resolved.expression_of c.in-Text.is) in
    spoken c.args.self.now c.args.faults.now.items c.text.result c.text.new.faults.items is c.text.ensures

pub expression-returns-in-Reference : goal.expression-returns-in-Reference
expression-returns-in-Reference t c =
    let is = sym (ap resolved.expression_of c.in-Reference.is ∙ c.resolved_trees_have_their_lists.ensures.reference c.in-Reference.reference) in
    spoken c.args.self.now c.args.faults.now.items c.value.result c.value.new.faults.items is c.value.ensures

pub expression-returns-in-Location : goal.expression-returns-in-Location
expression-returns-in-Location t c =
    spoken c.args.self.now c.args.faults.now.items c.location.result c.location.new.faults.items (sym (ap resolved.expression_of c.in-Location.is)) c.location.ensures

pub expression-returns-in_ok-typed-in-Parenthesised : goal.expression-returns-in_ok-typed-in-Parenthesised
expression-returns-in_ok-typed-in-Parenthesised t c =
    let at = c.in-Parenthesised in
    let self = c.args.self.now in
    let old = c.args.faults.now.items in
    let is = (λ j. ParenthesisedR at.field-0 (resolved.expression_of (c.deref-in-Parenthesised.ensures j))) ∙ sym (ap resolved.expression_of at.is) in
    let did = c.in_ok-typed-in-Parenthesised.ensures in
    let made = c.parenthesised.ensures in
    (λ j. record { tree = view.expression_of (made.tree j); scalar = made.scalar j; numbers = made.numbers j; faults = c.expression.new.faults.items })
    ∙ ap spec.parenthesised did
    ∙ ap (λ (x : ExpressionR). after old (typed_by self x)) is

pub expression-returns-in_ok-target-in-Embedded : goal.expression-returns-in_ok-target-in-Embedded
expression-returns-in_ok-target-in-Embedded t c =
    let at = c.in-Embedded in
    let self = c.args.self.now in
    let old = c.args.faults.now.items in
    let x = resolved.reference_of at.target in
    let e = resolved.expression_of at.value.value in
    let is = sym (ap resolved.expression_of at.is ∙ c.resolved_trees_have_their_lists.ensures.embedded at.place at.target at.value) in
    let pair = c.in_ok-target-in-Embedded.ensures in
    let noted = c.expression-in-Embedded.new.faults.items in
    let value = typed_at noted pair.1 c.expression-in-Embedded.ensures ∙ (λ j. after c.target.new.faults.items (typed_by self (resolved.expression_of (c.deref-in-Embedded.ensures j)))) in
    let path = (λ j. spec.embedded self.module at.place (target_said (pair.0 j) noted) (said c.in_ok-target-in-Embedded.value []))
    ∙ embedded_said self.module at.place old (target_by self x) _ (typed_by self e) _ c.in_ok-stored-in-Embedded.ensures value in
    spoken self old c.embedded.result c.embedded.new.faults.items is (typed_moved c.embedded.result c.embedded.new.faults.items path c.embedded.ensures)

pub expression-returns-in_ok-operand-in-Unary : goal.expression-returns-in_ok-operand-in-Unary
expression-returns-in_ok-operand-in-Unary t c =
    let at = c.in-Unary in
    let self = c.args.self.now in
    let old = c.args.faults.now.items in
    let unary = spec.unary self.module at.place at.operator in
    let e = resolved.expression_of at.operand.value in
    let did = c.in_ok-operand-in-Unary.ensures ∙ (λ j. after old (typed_by self (resolved.expression_of (c.deref-in-Unary.ensures j)))) in
    let path = ap unary did ∙ own_after (unary (typed_by self e)) old (typed_by self e).faults _ in
    spoken self old c.unary.result c.unary.new.faults.items (sym (ap resolved.expression_of at.is)) (typed_moved c.unary.result c.unary.new.faults.items path c.unary.ensures)

pub expression-returns-in_ok-left-in-Chain : goal.expression-returns-in_ok-left-in-Chain
expression-returns-in_ok-left-in-Chain t c =
    let self = c.args.self.now in
    let old = c.args.faults.now.items in
    let e = resolved.expression_of c.in-Chain.first.value in
    let os = c.in-Chain.others in
    let is = sym (ap resolved.expression_of c.in-Chain.is ∙ c.resolved_trees_have_their_lists.ensures.chain c.in-Chain.first os) in
    let left = c.in_ok-left-in-Chain.ensures ∙ (λ j. after old (typed_by self (resolved.expression_of (c.deref-in-Chain.ensures j)))) in
    let place = c.first_place.ensures ∙ (λ j. found.first_place (resolved.expression_of (c.deref-in-Chain-3.ensures j))) in
    let path = (λ j. chain (variables self) (procedures self) (sizes self) self.module (place j) (left j) (c.deref-in-Chain-2.ensures.value j))
    ∙ leaned_after (variables self) (procedures self) (sizes self) self.module old e os.items in
    spoken self old c.operations.result c.operations.new.faults.items is (typed_moved c.operations.result c.operations.new.faults.items path c.operations.ensures)

-- ---- operators of one precedence, one by one

pub operations-loop-operation-preserved : goal.operations-loop-operation-preserved
operations-loop-operation-preserved t c =
    let self = c.args.self.now in
    let here = c.loop-operation in
    let first = c.args.first in
    let i = here.operation-index in
    let o = c.operation-item.result in
    let from = chain (variables self) (procedures self) (sizes self) self.module first in
    let so_far = said here.typed here.faults.items in
    let at = sym (drop_at c.args.operations.now i o c.loop-operation-test.true c.operation-item.is) in
    let pair = c.in_ok-so_far.ensures in
    let noted = c.expression.new.faults.items in
    let right = typed_at noted pair.1 c.expression.ensures in
    let made = c.in_ok-typed.ensures ∙ (λ j. spec.binary self.module o.place o.operator first (said (pair.0 j) noted) (said c.in_ok-so_far.right []))
    ∙ joined_said self.module o.place o.operator first so_far (typed_by self (resolved.expression_of o.operand)) _ right in
    ap (λ (x : Typed). from x (drop (i + 1) c.args.operations.now)) made ∙ ap (from so_far) at ∙ here.invariant

pub operations-returns : goal.operations-returns
operations-returns t c =
    let self = c.args.self.now in
    let here = c.loop-operation in
    let none = sym (drop_all here.operation-index c.args.operations.now c.loop-operation-test.false) in
    ap (chain (variables self) (procedures self) (sizes self) self.module c.args.first (said here.typed here.faults.items)) none ∙ here.invariant

-- ---- lists

pub list-loop-e-preserved : goal.list-loop-e-preserved
list-loop-e-preserved t c =
    let here = c.loop-e in
    let self = c.args.self.now in
    let all = here.all in
    let es = c.args.es.now in
    let x = c.e-item.result in
    let e = typed_by self (resolved.expression_of x) in
    let did = c.in_ok-typed.ensures in
    let left = list_by self (resolved.expressions_of (drop (here.e-index + 1) es)) in
    let at = sym (expressions_at es here.e-index x c.loop-e-test.true c.e-item.is) in
    let trees = ap (λ (l : List Expression). trees_before l left.trees) c.in_ok-push.ensures.trees
    ∙ trees_pushed all.trees.items c.in_ok-typed.typed.tree left.trees ∙ (λ j. trees_before all.trees.items (rest.More (did j).tree left.trees)) in
    let types = ap (λ (l : List (Option ScalarType)). l ++ left.types) c.in_ok-push.ensures.types
    ∙ append_assoc all.types.items (c.in_ok-typed.typed.scalar ∷ []) left.types ∙ (λ j. all.types.items ++ (did j).scalar ∷ left.types) in
    let faults = (λ j. (did j).faults ++ left.faults) ∙ append_assoc here.faults.items e.faults left.faults in
    (λ j. record { trees = trees j; types = types j; faults = faults j })
    ∙ ap (λ (l : ExpressionsR). list_before all here.faults.items (list_by self l)) at
    ∙ here.invariant

pub list-returns : goal.list-returns
list-returns t c =
    let here = c.loop-e in
    let self = c.args.self.now in
    let none = sym (drop_all here.e-index c.args.es.now c.loop-e-test.false) in
    (λ j. record { trees = sym (trees_all here.all.trees.items) j; types = sym (append-nil here.all.types.items) j; faults = sym (append-nil here.faults.items) j })
    ∙ ap (λ (l : List declared_resolved.Expression). list_before here.all here.faults.items (list_by self (resolved.expressions_of l))) none
    ∙ here.invariant

-- ---- arguments, where values of some types are wanted

pub given-loop-e-preserved : goal.given-loop-e-preserved
given-loop-e-preserved t c =
    let here = c.loop-e in
    let self = c.args.self.now in
    let all = here.all in
    let es = c.args.es.now in
    let x = c.e-item.result in
    let scalar = first_type here.others.now in
    let e = spec.wanted self.module scalar (typed_by self (resolved.expression_of x)) in
    let value = c.in_ok-value.ensures ∙ ap (λ (s : Option ScalarType). spec.wanted self.module s (said c.in_ok-typed.typed c.expression.new.faults.items)) c.first_type.ensures in
    let did = wanted_after self.module scalar here.faults.items (typed_by self (resolved.expression_of x)) _ _ c.in_ok-typed.ensures value in
    let left = given_by self (other_types here.others.now) (resolved.expressions_of (drop (here.e-index + 1) es)) in
    let at = sym (expressions_at es here.e-index x c.loop-e-test.true c.e-item.is) in
    let trees = ap (λ (l : List Expression). trees_before l left.trees) c.in_ok-push.ensures.trees
    ∙ trees_pushed all.trees.items c.in_ok-value.value.tree left.trees ∙ (λ j. trees_before all.trees.items (rest.More (did j).tree left.trees)) in
    let types = ap (λ (l : List (Option ScalarType)). l ++ left.types) c.in_ok-push.ensures.types
    ∙ append_assoc all.types.items (c.in_ok-value.value.scalar ∷ []) left.types ∙ (λ j. all.types.items ++ (did j).scalar ∷ left.types) in
    let faults = (λ j. (did j).faults ++ left.faults) ∙ append_assoc here.faults.items e.faults left.faults in
    ap (λ (l : List (Option ScalarType)). list_before c.push.new.self c.wanted.new.faults.items (given_by self l (resolved.expressions_of (drop (here.e-index + 1) es)))) c.other_types-others.ensures
    ∙ (λ j. record { trees = trees j; types = types j; faults = faults j })
    ∙ ap (λ (l : ExpressionsR). list_before all here.faults.items (given_by self here.others.now l)) at
    ∙ here.invariant

pub given-returns : goal.given-returns
given-returns t c =
    let here = c.loop-e in
    let self = c.args.self.now in
    let none = sym (drop_all here.e-index c.args.es.now c.loop-e-test.false) in
    (λ j. record { trees = sym (trees_all here.all.trees.items) j; types = sym (append-nil here.all.types.items) j; faults = sym (append-nil here.faults.items) j })
    ∙ ap (λ (l : List declared_resolved.Expression). list_before here.all here.faults.items (given_by self here.others.now (resolved.expressions_of l))) none
    ∙ here.invariant

pub passed-returns : goal.passed-returns
passed-returns t c =
    let self = c.args.self.now in
    let old = c.args.faults.now.items in
    let es = c.args.es.now in
    let wanted = parameters_wanted (variables self) (option_map (λ p. procedure_of p.now) c.args.procedure) in
    let types = c.deref.ensures.value ∙ c.in_ok-types.ensures in
    let path = ap (λ (ts : List (Option ScalarType)). list_after old (given_by self ts (resolved.expressions_of es))) types
    ∙ ap (list_after old) (given_taken (variables self) (procedures self) (sizes self) self.module wanted es) in
    subst (λ (l : TypedList). IfOk c.given.result (λ r. list_said r c.given.new.faults.items ≡ l)) path c.given.ensures

-- ---- the parts of a reference

pub parts-returns : goal.parts-returns
parts-returns t c =
    let r = c.args.reference.now in
    let self = c.args.self.now in
    let old = c.args.faults.now.items in
    let subscripts = c.in_ok-subscripts.ensures ∙ ap (λ (l : List declared_resolved.Expression). list_after old (list_by self (resolved.expressions_of l))) c.deref.ensures.value in
    parts_made old (list_by self (resolved.expressions_of r.subscripts.items)) (selector_by self (resolved.selector_of r.selector)) _ _ subscripts c.in_ok-member.ensures

-- ---- a reference as a value

-- a reference whose name means this
abbrev meaning : Reference → Binding → ReferenceR'
meaning r m = Use r.place m (resolved.expressions_of r.subscripts.items) (resolved.selector_of r.selector)

pub value-returns-in-Some : goal.value-returns-in-Some
value-returns-in-Some t c =
    let r = c.args.reference.now in
    let s = resolved.selector_of r.selector in
    let self = c.args.self.now in
    let old = c.args.faults.now.items in
    c.in-Some.ensures old
    ∙ (λ j. after old (spec.read (variables self) self.module r.place (c.variable-variable.ensures j) s (parts_by self (resolved.reference_of r))))
    ∙ ap (λ (m : Binding). after old (value_by self (meaning r m))) (sym c.in-Variable.is)

pub value-returns-in-None : goal.value-returns-in-None
value-returns-in-None t c =
    let r = c.args.reference.now in
    let s = resolved.selector_of r.selector in
    let self = c.args.self.now in
    let old = c.args.faults.now.items in
    let path = (λ j. after old (spec.read (variables self) self.module r.place (c.variable-variable.ensures j) s (parts_by self (resolved.reference_of r))))
    ∙ ap (λ (m : Binding). after old (value_by self (meaning r m))) (sym c.in-Variable.is) in
    typed_moved c.read_by_parts.result c.read_by_parts.new.faults.items path c.read_by_parts.ensures

pub read_by_parts-returns : goal.read_by_parts-returns
read_by_parts-returns t c =
    let r = c.args.reference.now in
    let s = resolved.selector_of r.selector in
    let self = c.args.self.now in
    let old = c.args.faults.now.items in
    let parts = parts_by self (resolved.reference_of r) in
    let read = spec.read (variables self) self.module r.place c.args.variable s in
    let path = ap read c.in_ok-parts.ensures ∙ own_after (read parts) old parts.faults _ in
    typed_moved c.read.result c.read.new.faults.items path c.read.ensures

pub value-returns-in_ok-arguments-in-Procedure : goal.value-returns-in_ok-arguments-in-Procedure
value-returns-in_ok-arguments-in-Procedure t c =
    let r = c.args.reference.now in
    let s = resolved.selector_of r.selector in
    let self = c.args.self.now in
    let old = c.args.faults.now.items in
    let q = c.procedure-procedure.ensures in
    let wanted = parameters_wanted (variables self) in
    let es = given_by self (wanted (q 1)) (resolved.expressions_of r.subscripts.items) in
    let called = spec.called (variables self) self.module r.place in
    let did = c.in_ok-arguments-in-Procedure.ensures ∙ (λ j. list_after old (given_by self (wanted (q j)) (resolved.expressions_of (c.deref.ensures.value j)))) in
    let path = (λ j. called (q j) s (did j))
    ∙ own_after (called (q 1) s es) old es.faults _
    ∙ ap (λ (m : Binding). after old (value_by self (meaning r m))) (sym c.in-Procedure.is) in
    typed_moved c.called.result c.called.new.faults.items path c.called.ensures

pub value-returns-then-is_measure : goal.value-returns-then-is_measure
value-returns-then-is_measure t c =
    let r = c.args.reference.now in
    let s = resolved.selector_of r.selector in
    let self = c.args.self.now in
    let old = c.args.faults.now.items in
    let b = c.in-Builtin.builtin in
    let noted = c.in_ok-note_unless-in-Builtin.ensures ∙ (λ j. old ++ found.fault_unless self.module (not (c.is_target.ensures j)) E401 r.place) in
    let measured = spec.plainly self.module r.place s (arguments_by self r.place b (resolved.expressions_of r.subscripts.items)) in
    let applied = spec.operated self.module r.place b s (given_by self (wanted_arguments b) (resolved.expressions_of r.subscripts.items)) in
    let yes = sym (sym c.is_measure.ensures ∙ c.if-is_measure.true) in
    let path = (λ j. after (noted j) measured)
    ∙ own_after measured old (found.fault_unless self.module (not (is_target b)) E401 r.place) measured.faults
    ∙ (λ j. after old (spec.as_value self.module r.place b (spec.chosen (yes j) measured applied)))
    ∙ ap (λ (m : Binding). after old (value_by self (meaning r m))) (sym c.in-Builtin.is) in
    typed_moved c.measure_call.result c.measure_call.new.faults.items path c.measure_call.ensures

pub value-returns-in_ok-arguments-in-Builtin : goal.value-returns-in_ok-arguments-in-Builtin
value-returns-in_ok-arguments-in-Builtin t c =
    let r = c.args.reference.now in
    let s = resolved.selector_of r.selector in
    let self = c.args.self.now in
    let old = c.args.faults.now.items in
    let b = c.in-Builtin.builtin in
    let no_target = found.fault_unless self.module (not (is_target b)) E401 r.place in
    let noted = c.in_ok-note_unless-in-Builtin.ensures ∙ (λ j. old ++ found.fault_unless self.module (not (c.is_target.ensures j)) E401 r.place) in
    let es = given_by self (wanted_arguments b) (resolved.expressions_of r.subscripts.items) in
    let operated = spec.operated self.module r.place b s in
    let measured = spec.plainly self.module r.place s (arguments_by self r.place b (resolved.expressions_of r.subscripts.items)) in
    let no = sym (sym c.is_measure.ensures ∙ c.if-is_measure.false) in
    let did = c.in_ok-arguments-in-Builtin.ensures ∙ (λ j. list_after (noted j) (given_by self (c.wanted_arguments-types.ensures j) (resolved.expressions_of (c.deref-in-Builtin.ensures.value j)))) in
    let path = ap operated did
    ∙ own_after (operated es) (old ++ no_target) es.faults _
    ∙ own_after (operated es) old no_target (operated es).faults
    ∙ (λ j. after old (spec.as_value self.module r.place b (spec.chosen (no j) measured (operated es))))
    ∙ ap (λ (m : Binding). after old (value_by self (meaning r m))) (sym c.in-Builtin.is) in
    typed_moved c.operated.result c.operated.new.faults.items path c.operated.ensures

pub value-returns-in-Nothing : goal.value-returns-in-Nothing
value-returns-in-Nothing t c =
    let path = ap (λ (m : Binding). after c.args.faults.now.items (value_by c.args.self.now (meaning c.args.reference.now m))) (sym c.in-Nothing.is) in
    typed_moved c.refused.result c.refused.new.faults.items path c.refused.ensures

-- ---- LENGTH, LAST and SIZE

pub measure_call-returns : goal.measure_call-returns
measure_call-returns t c =
    let r = c.args.reference.now in
    let self = c.args.self.now in
    let old = c.args.faults.now.items in
    let plain = c.is_plain-plain.ensures in
    let noted = c.in_ok-note_unless.ensures ∙ (λ j. old ++ found.fault_unless self.module (plain j) E401 r.place) in
    let es = arguments_by self r.place c.args.builtin (resolved.expressions_of r.subscripts.items) in
    let did = c.in_ok-typed.ensures ∙ (λ j. after (noted j) (arguments_by self r.place c.args.builtin (resolved.expressions_of (c.deref.ensures.value j)))) in
    let given = c.given_if.ensures in
    (λ j. record { tree = (ap view.expression_of given.tree ∙ (λ i. (did i).tree)) j; scalar = (given.scalar ∙ (λ i. given_if (plain i) (did i).scalar)) j; numbers = (given.numbers ∙ (λ i. (did i).numbers)) j; faults = (did j).faults })
    ∙ own_after (spec.plainly self.module r.place (resolved.selector_of r.selector) es) old (found.fault_unless self.module (is_plain (resolved.selector_of r.selector)) E401 r.place) es.faults

pub arguments-returns-in-len1 : goal.arguments-returns-in-len1
arguments-returns-in-len1 t c =
    let self = c.args.self.now in
    let is = sym (ap resolved.expressions_of (one_is c.args.es.now c.argument-item.result c.in-len1.len_at_least c.in-len1.len_below c.argument-item.is)) in
    let path = ap (λ (es : ExpressionsR). after c.args.faults.now.items (arguments_by self c.args.place c.args.builtin es)) is in
    typed_moved c.argument.result c.argument.new.faults.items path c.argument.ensures

pub arguments-returns-in_ok-judged-in-len2-up : goal.arguments-returns-in_ok-judged-in-len2-up
arguments-returns-in_ok-judged-in-len2-up t c =
    let self = c.args.self.now in
    let old = c.args.faults.now.items in
    let first = argument_by self c.args.place c.args.builtin (resolved.expression_of c.first-item.result) in
    let refused = spec.refused self.module E402 c.args.place in
    let path = ap (λ (e : Typed). after e.faults refused) c.in_ok-judged-in-len2-up.ensures
    ∙ own_after refused old first.faults refused.faults
    ∙ ap (after old) (many_are (variables self) (procedures self) (sizes self) self.module c.args.place c.args.builtin c.args.es.now c.first-item.result c.in-len2-up.len_at_least c.first-item.is) in
    typed_moved c.miscounted-in-len2-up.result c.miscounted-in-len2-up.new.faults.items path c.miscounted-in-len2-up.ensures

pub argument-returns-in_ok-parts-in-Variable : goal.argument-returns-in_ok-parts-in-Variable
argument-returns-in_ok-parts-in-Variable t c =
    let r = c.in-Reference.reference in
    let s = resolved.selector_of r.selector in
    let self = c.args.self.now in
    let old = c.args.faults.now.items in
    let judged = argument_by self c.args.place c.args.builtin in
    let parts = parts_by self (resolved.reference_of r) in
    let measured = spec.measured self.module c.args.place c.args.builtin r.place in
    let is = ap resolved.expression_of c.in-Reference.is ∙ c.resolved_trees_have_their_lists.ensures.reference r ∙ ap (λ (m : Binding). ReferenceR (meaning r m)) c.in-Variable.is in
    let path = (λ j. measured (c.variable-variable.ensures j) s (c.in_ok-parts-in-Variable.ensures j))
    ∙ own_after (measured (c.variable-variable.ensures 1) s parts) old parts.faults _
    ∙ ap (λ (e : ExpressionR). after old (judged e)) (sym is) in
    typed_moved c.measured.result c.measured.new.faults.items path c.measured.ensures

pub argument-returns-in-Number : goal.argument-returns-in-Number
argument-returns-in-Number t c =
    let self = c.args.self.now in
    let judged = argument_by self c.args.place c.args.builtin in
    let refused = spec.refused self.module E401 c.args.place in
    let at = λ (x : declared_resolved.Expression) (is : c.args.argument.now ≡ x) (none : refused ≡ judged (resolved.expression_of x)). none ∙ ap judged (sym (ap resolved.expression_of is)) in
    let none : refused ≡ judged (resolved.expression_of c.args.argument.now) =
    elim c.in-Number.is [
      | inl w ↦ at _ w.1 refl
      | inr more ↦ elim more [
        | inl w ↦ at _ w.2 refl
        | inr more ↦ elim more [
          | inl w ↦ at _ w.1 refl
          | inr more ↦ elim more [
            | inl w ↦ at _ w.2 refl
            | inr more ↦ elim more [
              | inl w ↦ at _ w.3 refl
              | inr w ↦ at _ w.3 refl
            ]
          ]
        ]
      ]
    ] in
    typed_moved c.refused-in-Number.result c.refused-in-Number.new.faults.items (ap (after c.args.faults.now.items) none) c.refused-in-Number.ensures

pub argument-returns-then-is_empty : goal.argument-returns-then-is_empty
argument-returns-then-is_empty t c =
    let e = resolved.expression_of c.in-Chain.first.value in
    let os = c.in-Chain.others in
    let alone = leaned_alone e os.items (sym os.ok.0 ∙ is_zero _ (sym c.is_empty.ensures ∙ c.if-is_empty.true)) in
    let is = (λ j. resolved.expression_of (c.deref.ensures j)) ∙ sym (ap resolved.expression_of c.in-Chain.is ∙ c.resolved_trees_have_their_lists.ensures.chain c.in-Chain.first os ∙ alone) in
    let path = ap (λ (x : ExpressionR). after c.args.faults.now.items (argument_by c.args.self.now c.args.place c.args.builtin x)) is in
    typed_moved c.argument.result c.argument.new.faults.items path c.argument.ensures

pub argument-returns-else-is_empty : goal.argument-returns-else-is_empty
argument-returns-else-is_empty t c =
    let e = resolved.expression_of c.in-Chain.first.value in
    let os = c.in-Chain.others in
    let more = leaned_joined e os.items (λ z. not_zero _ (sym c.is_empty.ensures ∙ c.if-is_empty.false) (os.ok.0 ∙ z)) in
    let is = sym (ap resolved.expression_of c.in-Chain.is ∙ c.resolved_trees_have_their_lists.ensures.chain c.in-Chain.first os ∙ more.is) in
    let path = ap (λ (x : ExpressionR). after c.args.faults.now.items (argument_by c.args.self.now c.args.place c.args.builtin x)) is in
    typed_moved c.refused-in-Chain.result c.refused-in-Chain.new.faults.items path c.refused-in-Chain.ensures

-- ---- locations

pub location-returns-in_ok-parts-in-Variable : goal.location-returns-in_ok-parts-in-Variable
location-returns-in_ok-parts-in-Variable t c =
    let at = c.in-Reference in
    let r = at.reference in
    let s = resolved.selector_of r.selector in
    let self = c.args.self.now in
    let old = c.args.faults.now.items in
    let parts = parts_by self (resolved.reference_of r) in
    let located = spec.located (variables self) self.module at.place at.form r.place in
    let is = ap resolved.location_of at.is ∙ c.resolved_trees_have_their_lists.ensures.location at.place at.form r ∙ ap (λ (m : Binding). LocationOf at.place at.form (meaning r m)) c.in-Variable.is in
    let path = (λ j. located (c.variable-variable.ensures j) s (c.in_ok-parts-in-Variable.ensures j))
    ∙ own_after (located (c.variable-variable.ensures 1) s parts) old parts.faults _
    ∙ ap (λ (l : LocationR'). after old (location_by self l)) (sym is) in
    typed_moved c.located.result c.located.new.faults.items path c.located.ensures

pub location-returns-in-Constants : goal.location-returns-in-Constants
location-returns-in-Constants t c =
    let self = c.args.self.now in
    let old = c.args.faults.now.items in
    let at = c.in-Constants in
    let made = spec.constants self.module at.place at.form at.object (sizes self) in
    (λ j. typed_with (c.constants.ensures j) old)
    ∙ ap (typed_with made) (sym (append-nil old))
    ∙ ap (λ (l : LocationR'). after old (location_by self l)) (sym (ap resolved.location_of at.is))

-- ---- a reference as a target

pub target-returns-in-Some : goal.target-returns-in-Some
target-returns-in-Some t c =
    let r = c.args.reference.now in
    let s = resolved.selector_of r.selector in
    let self = c.args.self.now in
    let old = c.args.faults.now.items in
    c.in-Some.ensures old
    ∙ (λ j. target_after old (spec.stored (variables self) self.module r.place (c.variable-variable.ensures j) s (parts_by self (resolved.reference_of r))))
    ∙ ap (λ (m : Binding). target_after old (target_by self (meaning r m))) (sym c.in-Variable.is)

pub target-returns-in-None : goal.target-returns-in-None
target-returns-in-None t c =
    let r = c.args.reference.now in
    let s = resolved.selector_of r.selector in
    let self = c.args.self.now in
    let old = c.args.faults.now.items in
    let path = (λ j. target_after old (spec.stored (variables self) self.module r.place (c.variable-variable.ensures j) s (parts_by self (resolved.reference_of r))))
    ∙ ap (λ (m : Binding). target_after old (target_by self (meaning r m))) (sym c.in-Variable.is) in
    target_moved c.store_by_parts.result c.store_by_parts.new.faults.items path c.store_by_parts.ensures

pub store_by_parts-returns : goal.store_by_parts-returns
store_by_parts-returns t c =
    let r = c.args.reference.now in
    let s = resolved.selector_of r.selector in
    let self = c.args.self.now in
    let old = c.args.faults.now.items in
    let parts = parts_by self (resolved.reference_of r) in
    let stored = spec.stored (variables self) self.module r.place c.args.variable s in
    let path = ap stored c.in_ok-parts.ensures ∙ target_own_after (stored parts) old parts.faults _ in
    target_moved c.stored.result c.stored.new.faults.items path c.stored.ensures

pub target-returns-in_ok-arguments-in-Builtin : goal.target-returns-in_ok-arguments-in-Builtin
target-returns-in_ok-arguments-in-Builtin t c =
    let r = c.args.reference.now in
    let self = c.args.self.now in
    let old = c.args.faults.now.items in
    let es = list_by self (resolved.expressions_of r.subscripts.items) in
    let port = spec.port self.module r.place c.in-Builtin.builtin (resolved.selector_of r.selector) in
    let did = c.in_ok-arguments-in-Builtin.ensures ∙ ap (λ (l : List declared_resolved.Expression). list_after old (list_by self (resolved.expressions_of l))) c.deref.ensures.value in
    let path = ap port did
    ∙ target_own_after (port es) old es.faults _
    ∙ ap (λ (m : Binding). target_after old (target_by self (meaning r m))) (sym c.in-Builtin.is) in
    target_moved c.port.result c.port.new.faults.items path c.port.ensures
