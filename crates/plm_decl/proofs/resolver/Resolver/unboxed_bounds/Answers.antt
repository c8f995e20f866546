use Rattle.std.proofs.Common.{Option, ◌∙◌}
use Rattle.plm_syntax.specs.View as tree
use Rattle.plm_decl.specs.Inner.Scope.{frames_of}
use Rattle.plm_decl.specs.Resolver.{Known}
use Rattle.plm_decl.specs.Resolved.{ExpressionR}
use Rattle.plm_decl.specs.Expressions.{expression}
use Rattle.plm_decl.specs.Statements.{step_for}
use Rattle.plm_decl.proofs.resolver.Resolver.unboxed_bounds.Goals as goal

pub returns-in-Ok : goal.returns-in-Ok
returns-in-Ok c =
    let frames = frames_of c.args.scope.now in
    let v = c.args.values.now in
    let m = c.in_ok-binding.ensures in
    let from = c.in_ok-from.ensures ∙ (λ j. expression frames (tree.expression_of v.first) (m j).1) in
    let limits = c.in-Ok.ensures ∙ (λ j. let q = expression frames (tree.expression_of v.last) (from j).1 in let u = step_for frames (tree.step_of v.step) q.1 in let all : ExpressionR × Option ExpressionR × Known = (q.0, u.0, u.1) in all) in
    (λ j. (record { binding = (m j).0; from = (from j).0; to = (limits j).0; step = (limits j).1 }, (limits j).2))
