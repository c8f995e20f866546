use Rattle.std.proofs.Common.{◌≡◌, ℕ, List, sym, ap, subst, ◌∙◌, refl, map, drop}
use Rattle.std.specs.List.{slice_get}
use Rattle.word86.specs.Action.{map_action}
use Rattle.plm_type.specs.Rest.{Scalar, Call, Passing, NoMore}
use Rattle.plm_type.specs.View.{scalar_of}
use Rattle.plm_type.specs.Next.{returned, next_statements, next_passing, parameters_of, body_of}
use Rattle.plm_meaning.specs.Context.{Expr, given, redex_part, part_of, to_run_in, to_run_of}
use Rattle.plm_meaning.specs.Inner.Redex.{acting, left, left_of, redex_left, procedures_in, offsets_of, sizes_of}
use Rattle.plm_meaning.proofs.Plug as plug
use Rattle.plm_meaning.proofs.Steps as steps
use Rattle.plm_meaning.proofs.redex.next_action.Goals as goal

pub returns-in-Ready-clause-action : goal.returns-in-Ready-clause-action
returns-in-Ready-clause-action c =
    let s = c.args.around.now in
    let fs = c.args.context.now.frames.items in
    let r = c.in-Ready.redex in
    ap (λ g. map_action (to_run_in fs) (acting c.redex_step.new.next (left s g))) c.in-Ready.is
    ∙ steps.whole_step s fs (redex_part r) (acting c.redex_step.new.next (redex_left s r)) (steps.redex_active r) c.redex_step.ensures.step
    ∙ ap (λ g. next_statements (offsets_of s) (sizes_of s) (procedures_in s) (to_run_in fs (part_of g))) (sym c.in-Ready.is)

pub returns-in-Ready-clause-end : goal.returns-in-Ready-clause-end
returns-in-Ready-clause-end c =
    let s = c.args.around.now in
    let fs = c.args.context.now.frames.items in
    let r = c.in-Ready.redex in
    steps.says_end c.redex_step.new.next (to_run_of c.args.context.now) c.redex_step.ensures.going
    (ap (λ g. returned (to_run_in fs (part_of g))) c.in-Ready.is ∙ plug.to_run_active (offsets_of s) (sizes_of s) (procedures_in s) fs (redex_part r) (steps.redex_active r))

pub returns-in-Call-clause-action : goal.returns-in-Call-clause-action
returns-in-Call-clause-action c =
    let s = c.args.around.now in
    let f = c.args.context.now.focus in
    let n = c.in-Call.p in
    let vs = c.in-Call.values.items in
    let x = c.pass.new.next in
    let body = body_of (slice_get (procedures_in s) n) in
    let next = λ (ys : List Scalar) (ws : List ℕ). map_action Expr (next_passing n ys ws body) in
    steps.focus_step s c.args.context.now.frames.items f (Expr (Call n (given vs NoMore))) (acting x (left s f)) (ap part_of c.in-Call.is) refl
    (ap (λ g. acting x (left s g)) c.in-Call.is
    ∙ subst (λ m. acting x (left_of m) ≡ m) (ap (λ ys. next ys c.deref.result.now) c.procedure.ensures.parameters ∙ ap (next (parameters_of (slice_get (procedures_in s) n))) c.deref.ensures.value) (c.pass.ensures.step n body)
    ∙ steps.call_step s n vs)

pub returns-in-Call-clause-end : goal.returns-in-Call-clause-end
returns-in-Call-clause-end c =
    steps.says_end c.pass.new.next (to_run_of c.args.context.now) c.pass.ensures.going
    (steps.focus_goes c.args.around.now c.args.context.now.frames.items c.args.context.now.focus (Expr (Call c.in-Call.p (given c.in-Call.values.items NoMore))) (ap part_of c.in-Call.is) refl)

pub returns-in-Passing-clause-action : goal.returns-in-Passing-clause-action
returns-in-Passing-clause-action c =
    let s = c.args.around.now in
    let f = c.args.context.now.focus in
    let n = c.in-Passing.field-0 in
    let k = c.in-Passing.done in
    let vs = c.in-Passing.values.items in
    let xs = map scalar_of c.in-Passing.parameters.now in
    let x = c.pass-in-Passing.new.next in
    let body = body_of (slice_get (procedures_in s) n) in
    steps.focus_step s c.args.context.now.frames.items f (Expr (Passing n xs (drop k vs))) (acting x (left s f)) (ap part_of c.in-Passing.is) refl
    (ap (λ g. acting x (left s g)) c.in-Passing.is
    ∙ subst (λ m. acting x (left_of m) ≡ m) (ap (λ ws. map_action Expr (next_passing n xs (drop k ws) body)) c.deref-in-Passing.ensures.value) (c.pass-in-Passing.ensures.step n body))

pub returns-in-Passing-clause-end : goal.returns-in-Passing-clause-end
returns-in-Passing-clause-end c =
    steps.says_end c.pass-in-Passing.new.next (to_run_of c.args.context.now) c.pass-in-Passing.ensures.going
    (steps.focus_goes c.args.around.now c.args.context.now.frames.items c.args.context.now.focus (Expr (Passing c.in-Passing.field-0 (map scalar_of c.in-Passing.parameters.now) (drop c.in-Passing.done c.in-Passing.values.items))) (ap part_of c.in-Passing.is) refl)

pub returns-in-Ready-clause-fits : goal.returns-in-Ready-clause-fits
returns-in-Ready-clause-fits c = steps.fits_in c.redex_step.new.next c.redex_step.ensures.going

pub returns-in-Call-clause-fits : goal.returns-in-Call-clause-fits
returns-in-Call-clause-fits c = steps.fits_in c.pass.new.next c.pass.ensures.going

pub returns-in-Passing-clause-fits : goal.returns-in-Passing-clause-fits
returns-in-Passing-clause-fits c = steps.fits_in c.pass-in-Passing.new.next c.pass-in-Passing.ensures.going
