-- Words of 8 and 16 bits as whole numbers with a remainder.
use Rattle.std.specs.Prelude.{ℕ, ◌+◌, ◌-◌, ◌*◌, ◌/◌, ◌%◌, ◌^◌}
use Rattle.word86.specs.declared.width.Width.{Width}
use Rattle.word86.specs.declared.width.Width.TheVariants as widths
use Rattle.word86.specs.Access.{values}

abbrev pub bits : Width → ℕ
bits widths.Byte = 8
bits widths.Word = 16

-- the low bits of a number
abbrev pub low : Width → ℕ → ℕ
low width v = v % values width

-- the bits that leave come in at the other end
abbrev pub rotated : Width → ℕ → ℕ → ℕ
rotated width v places = let turned = low width v * 2 ^ places in low width (turned % values width + turned / values width)

abbrev pub rotated_left : Width → ℕ → ℕ → ℕ
rotated_left width v count = rotated width v (count % bits width)

-- to the right is to the left by the other places
abbrev pub rotated_right : Width → ℕ → ℕ → ℕ
rotated_right width v count = rotated width v (bits width - count % bits width)
