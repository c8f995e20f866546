use Rattle.std.proofs.Common.{◌≡◌, ◌++◌, OnOk, List, append_assoc, subst, ap, ◌∙◌}
use Rattle.plm_decl.specs.ResolvedView as resolved
use Rattle.plm_type.specs.declared.effects.Effect.{Effect}
use Rattle.plm_type.specs.Effects as spec
use Rattle.plm_type.proofs.effects.add_bounds.Goals as goal

pub returns : goal.returns
returns c =
    let old = c.args.effects.now.items in
    let bounds = c.args.bounds.now in
    let a = spec.of_expression (resolved.expression_of bounds.from) in
    let b = spec.of_expression (resolved.expression_of bounds.to) in
    let s = spec.of_step (resolved.step_of bounds.step) in
    let path =
    ap (λ (l : List Effect). l ++ s) (c.in_ok-add_expression-2.ensures ∙ ap (λ (l : List Effect). l ++ b) c.in_ok-add_expression.ensures)
    ∙ append_assoc (old ++ a) b s ∙ append_assoc old a (b ++ s) in
    subst (λ (l : List Effect). OnOk c.add_step.result (c.add_step.new.effects.items ≡ l)) path c.add_step.ensures
