use Rattle.std.specs.Prelude.{ℕ, ◌<◌}
use Rattle.plm86.specs.Destination.{ClashesAt}
use Rattle.plm86.proofs.destination.earliest_clash.Given as goal

abbrev pub invariant-loop-k : goal.invariant-loop-k
invariant-loop-k l = (i j : ℕ) → i < l.k → ClashesAt l.files l.written i j → ⊥
