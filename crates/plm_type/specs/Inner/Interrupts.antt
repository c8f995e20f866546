-- Whom texts call, as the code has their calls.
use Rattle.std.specs.Prelude.{ℕ, List, ◌⊎◌, slice_get, Contains}
use Rattle.plm_type.specs.Reach.{Graph, row_of}

-- main, or a procedure
abbrev pub IsCalledIn : Graph → (main : List ℕ) → ℕ → Type 0
IsCalledIn g main p = Contains main p ⊎ ((q : ℕ) × Contains (row_of (slice_get g q)) p)
