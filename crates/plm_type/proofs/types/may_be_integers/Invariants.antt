use Rattle.std.proofs.Common.{◌≡◌, drop}
use Rattle.plm_type.specs.Types.{may_be_integers}
use Rattle.plm_type.proofs.types.may_be_integers.Given as goal

abbrev pub invariant-loop-scalar : goal.invariant-loop-scalar
invariant-loop-scalar l = may_be_integers (drop l.scalar-index l.types) ≡ may_be_integers l.types
