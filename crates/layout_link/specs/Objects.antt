-- Where the objects of a program lie.
use Rattle.std.specs.Prelude.{ℕ, ◌+◌, List, [], ◌∷◌}

-- objects of these sizes, one after another from an offset on
abbrev pub offsets_from : (from : ℕ) → (sizes : List ℕ) → List ℕ
offsets_from from [] = []
offsets_from from (size ∷ sizes) = from ∷ offsets_from (from + size) sizes
