use Rattle.std.proofs.Common.{sym, ap, ◌∙◌}
use Rattle.plm_meaning.specs.Context.{to_run_in}
use Rattle.plm_meaning.specs.Inner.Redex.{call_left, left}
use Rattle.plm_meaning.proofs.Steps as steps
use Rattle.plm_meaning.proofs.redex.go_on.Goals as goal

pub returns-in-Ready : goal.returns-in-Ready
returns-in-Ready c =
    record { rest = ap (to_run_in c.args.context.now.frames.items) (c.redex_left.ensures ∙ ap (λ f. left c.args.around.now f c.args.answer) (sym c.in-Ready.is)) }

pub returns : goal.returns
returns c =
    let s = c.args.around.now in
    let v = c.args.answer in
    record {
      rest =
          ap (to_run_in c.args.context.now.frames.items)
          (c.call_left.ensures v ∙ ap (λ f. call_left s f v) c.replace-focus.ensures.value ∙ sym (steps.not_ready s c.args.context.now.focus v c.in_default.not-Ready));
    }
