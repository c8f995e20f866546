use Rattle.std.proofs.Common.{◌≡◌, drop}
use Rattle.plm_type.specs.Types.{may_all_count}
use Rattle.plm_type.proofs.types.may_all_count.Given as goal

abbrev pub invariant-loop-scalar : goal.invariant-loop-scalar
invariant-loop-scalar l = may_all_count (drop l.scalar-index l.types) ≡ may_all_count l.types
