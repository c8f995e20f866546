use Rattle.std.proofs.Common.{◌≡◌, drop}
use Rattle.plm_type.specs.Types.{are_known_counts}
use Rattle.plm_type.proofs.types.are_known_counts.Given as goal

abbrev pub invariant-loop-scalar : goal.invariant-loop-scalar
invariant-loop-scalar l = are_known_counts (drop l.scalar-index l.types) ≡ are_known_counts l.types
