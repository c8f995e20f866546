use Rattle.std.proofs.Common.{◌≡◌, ◌++◌, drop, map}
use Rattle.plm_decl.specs.Names.{procedure_of}
use Rattle.plm_type.specs.Interrupts as spec
use Rattle.plm_type.proofs.interrupts.called.Given as goal

abbrev pub invariant-loop-effect : goal.invariant-loop-effect
invariant-loop-effect l =
    l.numbers.items ++ spec.called (map procedure_of l.procedures) (drop l.effect-index l.effects) ≡ spec.called (map procedure_of l.procedures) l.effects
