use Rattle.std.proofs.Common.{◌≡◌, ◌++◌, drop}
use Rattle.plm_decl.specs.ResolvedView as resolved
use Rattle.plm_type.specs.Effects as spec
use Rattle.plm_type.proofs.effects.add_targets.Given as goal

abbrev pub invariant-loop-target : goal.invariant-loop-target
invariant-loop-target l = l.effects.items ++ spec.of_targets (resolved.references_of (drop l.target-index l.targets)) ≡ l.initial.effects.items ++ spec.of_targets (resolved.references_of l.targets)
