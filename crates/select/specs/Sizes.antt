-- How long the steps of a part are: a jump is short where it can be.
use Rattle.std.specs.Prelude.{ℕ, ◌≡◌, ◌+◌, ◌<◌, ◌≤◌, List, length, sum, take, slice_index, slice_index_or, slice_set}
use Rattle.select.specs.declared.sizes.Extent.{Extent}
use Rattle.select.specs.declared.sizes.Extent.TheVariants.{Fixed, Jump}

abbrev pub extent_at : List Extent → ℕ → Extent
extent_at xs k = slice_index_or xs k (Fixed 0)

-- where the k-th step begins
abbrev pub start : List ℕ → ℕ → ℕ
start sizes k = sum (take k sizes)

-- If the jump from a step to another one alone were short, then the distance from its end would be -128 to 127.
pub record IsInReach (sizes : List ℕ) (from target : ℕ) : Type 0 where
  pub ahead : start (slice_set sizes from 2) target ≤ start (slice_set sizes from 2) (from + 1) + 127
  pub back : start (slice_set sizes from 2) (from + 1) ≤ start (slice_set sizes from 2) target + 128

-- A jump is short exactly where it is in reach.
abbrev pub IsSettled : List ℕ → ℕ → Extent → Type 0
IsSettled sizes k (Fixed n) = slice_index sizes k ≡ n
IsSettled sizes k (Jump t long) = (IsInReach sizes k t → slice_index sizes k ≡ 2) × ((IsInReach sizes k t → ⊥) → slice_index sizes k ≡ long)

pub record AreSettled (xs : List Extent) (sizes : List ℕ) : Type 0 where
  pub many : length sizes ≡ length xs
  pub each : (k : ℕ) → k < length xs → IsSettled sizes k (extent_at xs k)

-- No sizes that are settled are smaller at any step: all jumps are short at first, and none is made long without need.
abbrev pub AreLeast : List Extent → List ℕ → Type 0
AreLeast xs sizes = (others : List ℕ) → AreSettled xs others → (k : ℕ) → slice_index sizes k ≤ slice_index others k
