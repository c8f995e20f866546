-- Where the parts begin.
use Rattle.std.specs.Prelude.{ℕ, ◌+◌, List, [], ◌∷◌, length}
use Rattle.select.specs.declared.part.Part.{Part}

-- how many bytes they have together
abbrev pub total_of : List Part → ℕ
total_of [] = 0
total_of (p ∷ ps) = length p.bytes.items + total_of ps

-- where each begins, one after another from this place on
abbrev pub places_from : (from : ℕ) → List Part → List ℕ
places_from from [] = []
places_from from (p ∷ ps) = from ∷ places_from (from + length p.bytes.items) ps
