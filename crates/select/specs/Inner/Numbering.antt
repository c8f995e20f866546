-- The numbers of the steps at which rows begin, as a list has them.
use Rattle.std.specs.Prelude.{ℕ, ◌-◌, min, List, length, slice_index}

-- an index past the last row is the place after it
abbrev pub step_at : (firsts : List ℕ) → ℕ → ℕ
step_at firsts k = slice_index firsts (min k (length firsts - 1))
