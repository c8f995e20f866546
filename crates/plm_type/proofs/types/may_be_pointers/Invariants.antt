use Rattle.std.proofs.Common.{◌≡◌, drop}
use Rattle.plm_type.specs.Types.{may_be_pointers}
use Rattle.plm_type.proofs.types.may_be_pointers.Given as goal

abbrev pub invariant-loop-scalar : goal.invariant-loop-scalar
invariant-loop-scalar l = may_be_pointers (drop l.scalar-index l.types) ≡ may_be_pointers l.types
