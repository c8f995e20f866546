-- Inputs with a limit.
use Rattle.std.specs.Prelude.{ℕ, ◌≡◌, List, Option, Some, None, take, length}
use Rattle.std.specs.Io.KnownBytes.{Consumes}

-- the bytes, or the first `most` of them
abbrev pub bounded : Option ℕ → List ℕ → List ℕ
bounded None xs = xs
bounded (Some most) xs = take most xs

-- a reader that tells its bytes has given some of them, one after another, and no more than `most`
abbrev pub GivesAtMost : Option ℕ → (old new : Option (List ℕ)) → Type 0
GivesAtMost most old new = (given : List ℕ) × Consumes old new given × (bounded most given ≡ given)

-- a reader that tells its bytes has given this many of them
abbrev pub GivesSoMany : ℕ → (old new : Option (List ℕ)) → Type 0
GivesSoMany n old new = (given : List ℕ) × Consumes old new given × (length given ≡ n)
