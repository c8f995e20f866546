-- Two halves of a ROM, put together.
use Rattle.std.specs.Prelude.{ℕ, List, [], ◌∷◌}

-- a byte of each in turn, and then what the longer one has left
abbrev pub interleaved : List ℕ → List ℕ → List ℕ
interleaved [] odd = odd
interleaved (a ∷ even) [] = a ∷ even
interleaved (a ∷ even) (b ∷ odd) = a ∷ b ∷ interleaved even odd
