-- A place among turns that rise.
use Rattle.std.specs.Prelude.{ℕ, ◌<◌, ◌≤◌, slice_index, length, List}

-- so many turns are before t, and the others are not
abbrev pub AreBefore : ℕ → List ℕ → ℕ → Type 0
AreBefore t turns k = (k ≤ length turns) × ((i : ℕ) → i < k → slice_index turns i < t) × ((i : ℕ) → k ≤ i → i < length turns → t ≤ slice_index turns i)
