-- The bits of a byte, and words in bytes, the low byte first.
use Rattle.std.specs.Prelude.{ℕ, Bool, ◌==◌, ◌+◌, ◌*◌, ◌/◌, ◌%◌, List, slice_index, slice_set}
use Rattle.std.specs.Int.{bit_at}

-- whether a bit of a byte is 1
abbrev pub is_set : ℕ → ℕ → Bool
is_set byte bit = bit_at byte bit == 1

abbrev pub word_in : List ℕ → ℕ → ℕ
word_in bytes at = slice_index bytes at + 256 * slice_index bytes (at + 1)

abbrev pub with_word : List ℕ → ℕ → ℕ → List ℕ
with_word bytes at value = slice_set (slice_set bytes at (value % 256)) (at + 1) (value / 256)
