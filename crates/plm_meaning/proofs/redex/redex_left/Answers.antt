use Rattle.std.proofs.Common.{sym, ap, ◌∙◌}
use Rattle.plm_meaning.specs.Inner.Redex.{left_of, redex_left}
use Rattle.plm_meaning.proofs.redex.redex_left.Goals as goal

pub returns-in-Case : goal.returns-in-Case
returns-in-Case c =
    ap (λ a. left_of a c.args.answer) c.case.ensures ∙ ap (λ r. redex_left c.args.around.now r c.args.answer) (sym c.in-Case.is)

pub returns-in-Loop : goal.returns-in-Loop
returns-in-Loop c = c.round_left.ensures c.args.around.now ∙ ap (λ r. redex_left c.args.around.now r c.args.answer) (sym c.in-Loop.is)
