-- The events of one turn.
use Rattle.std.specs.Prelude.{ℕ, ◌==◌, ◌-◌, slice_index, length, List, [], ◌∷◌, if◌then◌else◌}

-- the events whose turn is t, in their order
unfoldable pub due_at : {A : Type 0} → ℕ → List ℕ → List A → List A
due_at t [] es = []
due_at t (n ∷ ns) [] = []
due_at t (n ∷ ns) (e ∷ es) = if n == t then e ∷ due_at t ns es else due_at t ns es

-- 0 where there is none
abbrev pub last_turn : List ℕ → ℕ
last_turn turns = slice_index turns (length turns - 1)
