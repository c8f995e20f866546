use Rattle.std.proofs.Common.{◌≡◌, drop}
use Rattle.plm_type.specs.Interrupts as spec
use Rattle.plm_type.proofs.interrupts.lets_in.Given as goal

abbrev pub invariant-loop-effect : goal.invariant-loop-effect
invariant-loop-effect l =
    spec.lets_in (drop l.effect-index l.effects) ≡ spec.lets_in l.effects
