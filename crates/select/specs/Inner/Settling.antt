-- What holds while sizes are looked for.
use Rattle.std.specs.Prelude.{ℕ, ◌≡◌, ◌+◌, ◌<◌, ◌≤◌, ◌⊎◌, List, length, sum, slice_index}
use Rattle.select.specs.declared.sizes.Extent.{Extent}
use Rattle.select.specs.declared.sizes.Extent.TheVariants.{Fixed, Jump}
use Rattle.select.specs.Sizes.{extent_at, IsInReach, AreLeast}

abbrev pub shortest : Extent → ℕ
shortest (Fixed n) = n
shortest (Jump t long) = 2

abbrev pub longest : Extent → ℕ
longest (Fixed n) = n
longest (Jump t long) = long

-- a step has a byte at least, a long jump is longer than a short one, and a jump leads to a step
abbrev pub IsExtent : (many : ℕ) → Extent → Type 0
IsExtent many (Fixed n) = 1 ≤ n
IsExtent many (Jump t long) = (2 < long) × (t < many)

abbrev pub AreExtents : List Extent → Type 0
AreExtents xs = (k : ℕ) → k < length xs → IsExtent (length xs) (extent_at xs k)

-- a jump is short, and in reach if it was looked at, or it is long and out of reach
abbrev pub IsLooked : List ℕ → (at k : ℕ) → Extent → Type 0
IsLooked sizes at k (Fixed n) = slice_index sizes k ≡ n
IsLooked sizes at k (Jump t long) =
    ((slice_index sizes k ≡ 2) × (k < at → IsInReach sizes k t)) ⊎ ((slice_index sizes k ≡ long) × (IsInReach sizes k t → ⊥))

pub record IsSettling (xs : List Extent) (sizes : List ℕ) (at : ℕ) : Type 0 where
  pub many : length sizes ≡ length xs
  pub each : (k : ℕ) → k < length xs → IsLooked sizes at k (extent_at xs k)
  pub least : AreLeast xs sizes
  pub within : at ≤ length xs

-- one step on, or more bytes
abbrev pub Advances : List ℕ → ℕ → List ℕ → ℕ → Type 0
Advances sizes at sizes' at' = ((sizes' ≡ sizes) × (at' ≡ at + 1)) ⊎ (sum sizes < sum sizes')
