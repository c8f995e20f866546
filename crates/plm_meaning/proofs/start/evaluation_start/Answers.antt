use Rattle.std.proofs.Common.{ap, ◌∙◌}
use Rattle.plm_type.specs.Rest.{End}
use Rattle.plm_type.specs.Next.{evaluated}
use Rattle.plm_type.specs.View.{expression_of}
use Rattle.plm_meaning.specs.declared.context.Frame.TheVariants as frame
use Rattle.plm_meaning.specs.Context.{Expr, ToRun, to_run_in}
use Rattle.plm_meaning.proofs.Given.{source_value}
use Rattle.plm_meaning.proofs.Plug.{to_run_last}
use Rattle.plm_meaning.proofs.start.evaluation_start.Goals as goal

pub returns-clause-first : goal.returns-clause-first
returns-clause-first c =
    let fs = c.args.context.now.frames.items in
    let x = expression_of c.args.call.now in
    ap (λ l. to_run_in l (Expr x)) c.push_reserved.ensures.items
    ∙ to_run_last fs frame.Evaluate (Expr x)
    ∙ ap (λ o. to_run_in fs (ToRun (evaluated o x End))) (source_value c.args.call.now)
