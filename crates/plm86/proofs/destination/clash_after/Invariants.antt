use Rattle.std.specs.Prelude.{ℕ, ◌<◌, ◌≡◌, false, nat_le, slice_index_or}
use Rattle.plm86.specs.declared.destination.Destination.TheVariants.{Passing}
use Rattle.plm86.specs.Destination.{clashes}
use Rattle.plm86.proofs.destination.clash_after.Given as goal

abbrev pub invariant-loop-m : goal.invariant-loop-m
invariant-loop-m l = (j : ℕ) → j < l.m → l.k < j → clashes (nat_le l.written j) (slice_index_or l.files l.k Passing) (slice_index_or l.files j Passing) ≡ false
