-- The words of a part, filled in.
use Rattle.std.specs.Prelude.{ℕ, ◌+◌, ◌%◌, ◌/◌, nat_lt, if◌then◌else◌, List, [], ◌∷◌, length, slice_set}
use Rattle.select.specs.declared.part.Fixup.{Fixup}
use Rattle.select.specs.Linked.{value_at}
use Rattle.layout_link.specs.Rom.{word_in}

abbrev pub with_word : List ℕ → ℕ → ℕ → List ℕ
with_word bytes p n = slice_set (slice_set bytes p (n % 256)) (p + 1) (n / 256)

-- objects lie at these offsets, parts begin at these places, and this part at that one
module _ (offsets places : List ℕ) (base : ℕ) where
  abbrev pub value_of : Fixup → ℕ
  value_of f = value_at offsets places f.kind f.name (base + f.place + 2)

  abbrev pub filled_one : List ℕ → Fixup → List ℕ
  filled_one bytes f = if nat_lt (f.place + 1) (length bytes) then with_word bytes f.place ((word_in bytes f.place + value_of f) % 65536) else bytes

  abbrev pub filled : List ℕ → List Fixup → List ℕ
  filled bytes [] = bytes
  filled bytes (f ∷ fs) = filled (filled_one bytes f) fs
