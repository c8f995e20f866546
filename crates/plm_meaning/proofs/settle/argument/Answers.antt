use Rattle.std.proofs.Common.{sym, ap, ◌∙◌}
use Rattle.plm_type.specs.Rest.{Call, More, Value}
use Rattle.plm_type.specs.Rest as rest
use Rattle.plm_meaning.specs.Context.{Expr, given, to_run_in}
use Rattle.plm_meaning.proofs.Given.{no_arguments, given_last}
use Rattle.plm_meaning.proofs.settle.argument.Goals as goal

pub returns-in-None-clause-rest : goal.returns-in-None-clause-rest
returns-in-None-clause-rest c =
    ap (λ es. to_run_in c.args.context.now.frames.items (Expr (Call c.args.procedure es)))
    (ap (λ vs. given vs rest.NoMore) c.in-Ok.ensures.items ∙ given_last c.args.values.items c.args.v rest.NoMore
    ∙ ap (λ es. given c.args.values.items (More (Value c.args.v) es)) (sym (no_arguments c.args.more.now c.in-None.ensures.cases)))
