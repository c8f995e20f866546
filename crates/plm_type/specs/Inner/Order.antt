-- Procedures sorted by their ranks.
use Rattle.std.specs.Prelude.{ℕ, List, length, slice_index_or}
use Rattle.std.specs.List.{range_with_len}
use Rattle.std.specs.List.Sorted.{IsPermutation, IsNonDecreasingBy}

-- all that have a rank, by their ranks
pub record IsOrdered (ranks order : List ℕ) : Type 0 where
  pub all : IsPermutation (range_with_len 0 (length ranks)) order
  pub rising : IsNonDecreasingBy (λ p. slice_index_or ranks p 0) order
