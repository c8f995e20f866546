use Rattle.std.proofs.Common.{◌≡◌, drop}
use Rattle.plm_type.specs.Types.{has_integer}
use Rattle.plm_type.proofs.types.has_integer.Given as goal

abbrev pub invariant-loop-scalar : goal.invariant-loop-scalar
invariant-loop-scalar l = has_integer (drop l.scalar-index l.types) ≡ has_integer l.types
