-- How many scalars of a structure stand before each of its members.
use Rattle.std.specs.Prelude.{ℕ, ◌+◌, ◌-◌, ◌^◌, List, [], ◌∷◌, Bool, ◌&&◌, leb, nat_lt, min, Option, Some, None}
use Rattle.plm_decl.specs.declared.layout.Field.{Field}

abbrev pub scalars_of : Option ℕ → ℕ
scalars_of (Some n) = n
scalars_of None = 1

-- how many there are with those of one member more
abbrev pub scalars_with : Field → ℕ → ℕ
scalars_with f n = min (n + scalars_of f.member.dimension) (2 ^ 64 - 1)

-- how many scalars stand before each of these members, where this many stand before the first
abbrev pub scalars_before : ℕ → List Field → List ℕ
scalars_before n [] = []
scalars_before n (f ∷ fs) = n ∷ scalars_before (scalars_with f n) fs

-- and how many with them all
abbrev pub scalars_after : ℕ → List Field → ℕ
scalars_after n [] = n
scalars_after n (f ∷ fs) = scalars_after (scalars_with f n) fs

abbrev pub begins_by : Field → ℕ → Bool
begins_by f position = leb f.scalars_before position && nat_lt f.scalars_before (2 ^ 64 - 1)
