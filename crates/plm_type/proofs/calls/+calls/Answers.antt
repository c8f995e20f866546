use Rattle.std.proofs.Common.{◌≡◌, ℕ, ◌+◌, drop, [], ◌∷◌, ◌++◌, OnOk, List, append_assoc, subst, sym, ap, ◌∙◌}
use Rattle.plm_type.specs.Calls as spec
use Rattle.plm_type.specs.Inner.Calls as inner
use Rattle.plm_type.specs.Rest as rest
use Rattle.plm_type.specs.View as view
use Rattle.plm_type.proofs.Lists.{drop_at}
use Rattle.plm_type.proofs.Rows.{operation_row, expression_row}
use Rattle.plm_type.proofs.Parts.{chain_calls, reference_parts}
use Rattle.plm_type.specs.declared.program.Expression.{Expression}
use Rattle.plm_type.specs.declared.program.Operation.{Operation}
use Rattle.plm_type.specs.declared.program.Subscript.{Subscript}
use Rattle.plm_type.proofs.calls.+calls.Goals as goal

pub add_calls-returns-in_ok-add_calls-in-Chain : goal.add_calls-returns-in_ok-add_calls-in-Chain
add_calls-returns-in_ok-add_calls-in-Chain t c =
    let old = c.args.called.now.items in
    let os = c.in-Chain.others in
    let e = view.expression_of c.in-Chain.first.value in
    let first = c.in_ok-add_calls-in-Chain.ensures ∙ (λ j. old ++ spec.calls_in (view.expression_of (c.deref-in-Chain.ensures j))) in
    let path =
    (λ j. first j ++ inner.operation_calls (c.deref-in-Chain-2.ensures.value j))
    ∙ append_assoc old (spec.calls_in e) (inner.operation_calls os.items)
    ∙ ap (λ (l : List ℕ). old ++ l) (sym (chain_calls e os.items))
    ∙ ap (λ (x : rest.Expression). old ++ spec.calls_in x) (sym (ap view.expression_of c.in-Chain.is ∙ operation_row os e)) in
    subst (λ (l : List ℕ). OnOk c.add_operations.result (c.add_operations.new.called.items ≡ l)) path c.add_operations.ensures

pub add_calls-returns-in_ok-push-in-Call : goal.add_calls-returns-in_ok-push-in-Call
add_calls-returns-in_ok-push-in-Call t c =
    let old = c.args.called.now.items in
    let p = c.in-Call.procedure in
    let es = c.in-Call.arguments in
    let path =
    (λ j. c.in_ok-push-in-Call.ensures.items j ++ spec.argument_calls (view.expressions_of (c.deref-in-Call.ensures.value j)))
    ∙ append_assoc old (p ∷ []) (spec.argument_calls (view.expressions_of es.items))
    ∙ ap (λ (x : rest.Expression). old ++ spec.calls_in x) (sym (ap view.expression_of c.in-Call.is ∙ ap (rest.Call p) (expression_row es))) in
    subst (λ (l : List ℕ). OnOk c.add_arguments.result (c.add_arguments.new.called.items ≡ l)) path c.add_arguments.ensures

pub add_reference-loop-subscript-init : goal.add_reference-loop-subscript-init
add_reference-loop-subscript-init t c =
    ap (λ (l : List ℕ). c.args.called.now.items ++ l)
    (ap (λ (ss : List Subscript). spec.subscript_calls (view.subscripts_of ss)) c.deref-subscript-items.ensures.value ∙ sym (ap spec.reference_calls (reference_parts c.args.reference.now)))

pub add_arguments-loop-argument-preserved : goal.add_arguments-loop-argument-preserved
add_arguments-loop-argument-preserved t c =
    let here = c.loop-argument in
    let xs = c.args.arguments.now in
    let i = here.argument-index in
    let x = c.argument-item.result in
    let calls = λ (l : List Expression). spec.argument_calls (view.expressions_of l) in
    ap (λ (l : List ℕ). l ++ calls (drop (i + 1) xs)) c.in_ok-add_calls.ensures
    ∙ append_assoc here.called.items _ _
    ∙ ap (λ (l : List Expression). here.called.items ++ calls l) (sym (drop_at xs i x c.loop-argument-test.true c.argument-item.is))
    ∙ here.invariant

pub add_operations-loop-operation-preserved : goal.add_operations-loop-operation-preserved
add_operations-loop-operation-preserved t c =
    let here = c.loop-operation in
    let xs = c.args.operations.now in
    let i = here.operation-index in
    let x = c.operation-item.result in
    let calls = λ (l : List Operation). inner.operation_calls l in
    ap (λ (l : List ℕ). l ++ calls (drop (i + 1) xs)) c.in_ok-add_calls.ensures
    ∙ append_assoc here.called.items _ _
    ∙ ap (λ (l : List Operation). here.called.items ++ calls l) (sym (drop_at xs i x c.loop-operation-test.true c.operation-item.is))
    ∙ here.invariant

pub add_reference-loop-subscript-preserved : goal.add_reference-loop-subscript-preserved
add_reference-loop-subscript-preserved t c =
    let here = c.loop-subscript in
    let xs = c.deref-subscript-items.result.now in
    let i = here.subscript-index in
    let x = c.subscript-item.result in
    let calls = λ (l : List Subscript). spec.subscript_calls (view.subscripts_of l) in
    ap (λ (l : List ℕ). l ++ calls (drop (i + 1) xs)) c.in_ok-add_calls.ensures
    ∙ append_assoc here.called.items _ _
    ∙ ap (λ (l : List Subscript). here.called.items ++ calls l) (sym (drop_at xs i x c.loop-subscript-test.true c.subscript-item.is))
    ∙ here.invariant

pub add_calls-returns-in_ok-add_calls-in-Embedded : goal.add_calls-returns-in_ok-add_calls-in-Embedded
add_calls-returns-in_ok-add_calls-in-Embedded t c =
    let old = c.args.called.now.items in
    let at = c.in-Embedded in
    let value = spec.calls_in (view.expression_of at.value.value) in
    let target = spec.target_calls (view.target_of at.target.value) in
    let first = c.in_ok-add_calls-in-Embedded.ensures ∙ (λ j. old ++ spec.calls_in (view.expression_of (c.deref-in-Embedded.ensures j))) in
    let path =
    (λ j. first j ++ spec.target_calls (view.target_of (c.deref-in-Embedded-2.ensures j)))
    ∙ append_assoc old value target
    ∙ ap (λ (x : rest.Expression). old ++ spec.calls_in x) (sym (ap view.expression_of at.is)) in
    subst (λ (l : List ℕ). OnOk c.add_target.result (c.add_target.new.called.items ≡ l)) path c.add_target.ensures
