use Rattle.std.proofs.Common.{◌∙◌}
use Rattle.plm_syntax.specs.View as tree
use Rattle.plm_decl.specs.Inner.Scope.{frames_of}
use Rattle.plm_decl.specs.Statements.{step_for}
use Rattle.plm_decl.proofs.resolver.Resolver.last_and_step.Goals as goal

pub returns-in-Ok : goal.returns-in-Ok
returns-in-Ok c =
    let to = c.in_ok-to.ensures in
    let step = c.in-Ok.ensures ∙ (λ j. step_for (frames_of c.args.scope.now) (tree.step_of c.args.values.now.step) (to j).1) in
    (λ j. ((to j).0, (step j).0, (step j).1))
