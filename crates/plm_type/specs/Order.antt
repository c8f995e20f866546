-- An order of procedures, those that are called first.
use Rattle.std.specs.Prelude.{◌≡◌, ℕ, suc, ◌<◌, List, [], ◌∷◌, length, slice_get, nat_eq, cond, Some, Contains}
use Rattle.plm_type.specs.Reach.{Graph, row_of}

-- where a number first stands in a list
abbrev pub place_in : List ℕ → ℕ → ℕ
place_in [] p = 0
place_in (x ∷ xs) p = cond (nat_eq x p) 0 (suc (place_in xs p))

-- each procedure stands in it once, after those that it calls
pub record IsOrder (order : List ℕ) (g : Graph) : Type 0 where
  pub only : length order ≡ length g
  pub each : (p : ℕ) → p < length g → slice_get order (place_in order p) ≡ Some p
  pub once : (i p : ℕ) → slice_get order i ≡ Some p → place_in order p ≡ i
  pub later : (p q : ℕ) → p < length g → q < length g → Contains (row_of (slice_get g p)) q → place_in order q < place_in order p
