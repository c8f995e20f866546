use Rattle.std.proofs.Common.{◌+◌, ◌++◌, List, drop, append_assoc, sym, ap, ◌∙◌}
use Rattle.plm_decl.specs.ResolvedView as resolved
use Rattle.plm_type.specs.declared.effects.Effect.{Effect}
use Rattle.plm_type.specs.Effects as spec
use Rattle.plm_type.proofs.Lists.{references_at}
use Rattle.plm_type.proofs.effects.add_targets.Goals as goal

pub loop-target-preserved : goal.loop-target-preserved
loop-target-preserved c =
    let here = c.loop-target in
    let xs = c.args.targets.now in
    let i = here.target-index in
    let x = c.target-item.result in
    ap (λ (l : List Effect). l ++ spec.of_targets (resolved.references_of (drop (i + 1) xs))) c.in_ok-add_parts.ensures
    ∙ append_assoc here.effects.items _ _
    ∙ ap (λ (l : List Effect). here.effects.items ++ l) (sym (ap spec.of_targets (references_at xs i x c.loop-target-test.true c.target-item.is)))
    ∙ here.invariant
