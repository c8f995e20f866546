-- Words as numbers with sign, in two's complement, and their quotients and remainders.
use Rattle.std.specs.Prelude.{◌&&◌, ℕ, suc, zero, ◌-◌, ◌/◌, Bool, true, false, not, nat_eq, nat_le, ℤ, pos, negsuc, ◌-ℤ◌, neg_ℤ, int_le, int_lt, int_div, int_rem, Option, Some, None, if◌then◌else◌}

-- a number below `size`, read as two's complement
abbrev pub signed : (size : ℕ) → ℕ → ℤ
signed size a = if nat_le (size / 2) a then pos a -ℤ pos size else pos a

-- whether two's complement of `size` values has this number
abbrev pub in_range : (size : ℕ) → ℤ → Bool
in_range size z = int_le (neg_ℤ (pos (size / 2))) z && int_lt z (pos (size / 2))

-- the word that has this number, from -32,768 to 32,767
abbrev pub signed_word : ℤ → ℕ
signed_word (pos n) = n
signed_word (negsuc n) = 65535 - n

-- nothing is divided by zero, nor -32,768 by -1, whose quotient no word has
abbrev pub has_quotient : (x y : ℕ) → Bool
has_quotient x zero = false
has_quotient x (suc y) = if nat_eq x 32768 then not (nat_eq (suc y) 65535) else true

-- towards zero
abbrev pub signed_quotient : ℕ → ℕ → Option ℕ
signed_quotient x y = if has_quotient x y then Some (signed_word (int_div (signed 65536 x) (signed 65536 y))) else None

-- it has the sign of the dividend
abbrev pub signed_remainder : ℕ → ℕ → Option ℕ
signed_remainder x y = if has_quotient x y then Some (signed_word (int_rem (signed 65536 x) (signed 65536 y))) else None

abbrev pub signed_less : ℕ → ℕ → Bool
signed_less x y = int_lt (signed 65536 x) (signed 65536 y)
