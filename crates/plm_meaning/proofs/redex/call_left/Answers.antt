use Rattle.std.proofs.Common.{List, sym, ap, map, drop, ◌∙◌}
use Rattle.std.specs.List.{slice_get}
use Rattle.word86.specs.Action.{map_action}
use Rattle.plm_type.specs.Rest.{Scalar, Statements}
use Rattle.plm_type.specs.Next.{next_passing, parameters_of}
use Rattle.plm_type.specs.View.{scalar_of, statements_of}
use Rattle.plm_meaning.specs.Context.{Expr}
use Rattle.plm_meaning.specs.Inner.Redex.{left_of, call_left, procedures_in}
use Rattle.plm_meaning.proofs.redex.call_left.Goals as goal

pub returns-in-Call : goal.returns-in-Call
returns-in-Call c = λ answer.
    let s = c.args.around.now in
    let n = c.in-Call.p in
    let vs = c.in-Call.values.items in
    let next = λ (ys : List Scalar) (b : Statements). left_of (map_action Expr (next_passing n ys vs b)) answer in
    c.passed.ensures answer
    ∙ ap (λ ys. next ys (statements_of c.procedure.result.1.now)) c.procedure.ensures.parameters
    ∙ ap (next (parameters_of (slice_get (procedures_in s) n))) c.procedure.ensures.body
    ∙ ap (λ f. call_left s f answer) (sym c.in-Call.is)

pub returns-in-Passing : goal.returns-in-Passing
returns-in-Passing c = λ answer.
    let s = c.args.around.now in
    let x = c.in-Passing in
    c.passed-in-Passing.ensures answer
    ∙ ap (λ b. left_of (map_action Expr (next_passing x.p (map scalar_of x.parameters.now) (drop x.done x.values.items) b)) answer) c.procedure-in-Passing.ensures.body
    ∙ ap (λ f. call_left s f answer) (sym x.is)
