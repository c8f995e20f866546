-- What words with sign are, and what they are divided into.
use Rattle.std.specs.Prelude.{◌≡◌, ◌⊎◌, ◌<◌, ◌&&◌, ℕ, true, not, nat_eq, ℤ, pos, ◌+ℤ◌, ◌*ℤ◌, int_lt, int_div, unsigned_abs, Some}
use Rattle.word86.specs.Signed.{signed, in_range, signed_word, has_quotient, signed_quotient, signed_remainder}

-- Quotient times divisor plus remainder is the dividend; the remainder is smaller than the divisor and has the dividend's sign, if it is not 0.
pub record IsQuotient (dividend divisor quotient remainder : ℤ) : Type 0 where
  pub sum : quotient *ℤ divisor +ℤ remainder ≡ dividend
  pub smaller : unsigned_abs remainder < unsigned_abs divisor
  pub same_sign : (remainder ≡ pos 0) ⊎ (int_lt remainder (pos 0) ≡ int_lt dividend (pos 0))

pub record SignedLaw : Type 0 where
  -- each word is one of the numbers, and each of them one word
  pub fits : (v : ℕ) → v < 65536 → in_range 65536 (signed 65536 v) ≡ true
  pub word_again : (v : ℕ) → v < 65536 → signed_word (signed 65536 v) ≡ v
  pub number_again : (z : ℤ) → in_range 65536 z ≡ true → signed 65536 (signed_word z) ≡ z
  -- what something is divided by is not zero
  pub positive : (x y : ℕ) → has_quotient x y ≡ true → 0 < y
  -- there are quotient and remainder exactly where the divisor is not zero and a word has the quotient
  pub exists : (x y : ℕ) → x < 65536 → y < 65536 → has_quotient x y ≡ (not (nat_eq y 0) && in_range 65536 (int_div (signed 65536 x) (signed 65536 y)))
  pub divided : (x y q r : ℕ) → x < 65536 → y < 65536 → signed_quotient x y ≡ Some q → signed_remainder x y ≡ Some r
      → IsQuotient (signed 65536 x) (signed 65536 y) (signed 65536 q) (signed 65536 r)
