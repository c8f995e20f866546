-- Sets of the eight levels, and their order of priority.
use Rattle.std.specs.Prelude.{ℕ, Bool, ◌+◌, ◌-◌, ◌%◌, ◌^◌, bit_and, bit_or, Option, find, map}
use Rattle.std.specs.List.{range_with_len}
use Rattle.word86.specs.Bytes.{is_set}

-- a set of levels is a byte: level k is in it where bit k is 1
abbrev pub has : ℕ → ℕ → Bool
has levels k = is_set levels k

-- the set with a level more, and with one less
abbrev pub with_level : ℕ → ℕ → ℕ
with_level k levels = bit_or levels (2 ^ k)

abbrev pub without_level : ℕ → ℕ → ℕ
without_level k levels = bit_and levels (255 - 2 ^ k)

-- the level at a place of the order of priority: the highest is the one after the lowest
abbrev pub level_at : ℕ → ℕ → ℕ
level_at lowest place = (lowest + 1 + place) % 8

-- the place of a level, 0 for the highest
abbrev pub rank : ℕ → ℕ → ℕ
rank lowest k = (k + 7 - lowest) % 8

-- the highest level that passes a test
unfoldable pub highest : ℕ → (ℕ → Bool) → Option ℕ
highest lowest test = find test (map (level_at lowest) (range_with_len 0 8))
