-- What a number's normal form stands for.
use Rattle.std.specs.Prelude.{ℕ, ◌+◌, ◌-◌, ◌*◌, List, take, length, fold, Bool, cond, ◌&&◌, ◌||◌, nat_eq, nat_le, nat_lt, Option, Some, None, slice_index}
use Rattle.std.specs.List.{list_all}
use Rattle.plm_token.specs.Characters.{within, is_digit}

-- the base that the last character names: B, O or Q, D, H; a number without such a suffix is decimal
abbrev pub base_of : ℕ → Option ℕ
base_of b = cond (nat_eq b 66) (Some 2) (cond (nat_eq b 79 || nat_eq b 81) (Some 8) (cond (nat_eq b 68) (Some 10) (cond (nat_eq b 72) (Some 16) None)))

abbrev pub digit_value : ℕ → ℕ
digit_value b = cond (is_digit b) (b - 48) (b - 55)

abbrev pub is_digit_of : ℕ → ℕ → Bool
is_digit_of base b = (is_digit b || within 65 70 b) && nat_lt (digit_value b) base

-- what digits stand for, after others that stand for a number
abbrev pub value_from : ℕ → ℕ → List ℕ → ℕ
value_from base before digits = fold (λ n b. n * base + digit_value b) before digits

-- digits of a base, where they are at most 0FFFFFH
abbrev pub digits_from : ℕ → ℕ → List ℕ → Option ℕ
digits_from base before digits = cond (list_all (is_digit_of base) digits && nat_le (value_from base before digits) 1048575) (Some (value_from base before digits)) None

abbrev pub with_base : Option ℕ → List ℕ → Option ℕ
with_base None number = digits_from 10 0 number
with_base (Some base) number = digits_from base 0 (take (length number - 1) number)

-- the value of a number, where it is one and is at most 0FFFFFH
unfoldable pub numeral_of : List ℕ → Option ℕ
numeral_of number = with_base (base_of (slice_index number (length number - 1))) number
