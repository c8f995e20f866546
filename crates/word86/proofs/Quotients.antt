-- Words with sign, and what they are divided into.
use Rattle.std.proofs.Common.{◌≡◌, ℕ, zero, suc, ◌-◌, ◌*◌, ◌/◌, ◌%◌, ◌<◌, ◌≤◌, ◌⊎◌, inl, inr, ◌&&◌, not, Bool, true, false, Option, Some, None, ap, ◌∙◌, refl, sym, subst, nat_le, nat_eq, arith, if◌then◌else◌}
use Rattle.std.specs.Prelude.{ℤ, pos, negsuc, ◌-ℤ◌, neg_ℤ, int_lt, int_div, int_rem, unsigned_abs}
use Rattle.std.proofs.lemmas.Int.{ints, quot-rem, rem_below}
use Rattle.std.proofs.lemmas.Bool.{true≢false, ltb-true, leb-true, leb-false, lt-ltb, le-ltb, le-leb, lt-leb, eqb-true, eqb-false, ne_eqb, and_parts}
use Rattle.std.proofs.lemmas.Nat.{div-add-mod'}
use Rattle.std.proofs.Math.Nat.{div-le_self, mul-le-mul_left}
use Rattle.word86.specs.Signed.{signed, in_range, signed_word, has_quotient, signed_quotient, signed_remainder}
use Rattle.word86.specs.DivisionLaw.{IsQuotient, SignedLaw}

-- ---- the numbers of words

positive_fits : (n : ℕ) → n < 32768 → in_range 65536 (pos n) ≡ true
positive_fits n h = lt-ltb n 32768 h

both : (b : Bool) → b ≡ true → (b && true) ≡ true
both true e = refl
both false e = e

first : (b : Bool) → (b && true) ≡ true → b ≡ true
first true e = refl
first false e = e

negative_fits : (n : ℕ) → n < 32768 → in_range 65536 (negsuc n) ≡ true
negative_fits n h = both (nat_le n 32767) (le-leb n 32767 (omega (arith, h)))

positive_small : (n : ℕ) → in_range 65536 (pos n) ≡ true → n < 32768
positive_small n e = ltb-true n 32768 e

negative_small : (n : ℕ) → in_range 65536 (negsuc n) ≡ true → n < 32768
negative_small n e = omega (arith, leb-true n 32767 (first (nat_le n 32767) e))

-- the number of a word from 32,768 on
below_zero : (v : ℕ) → 32768 ≤ v → v < 65536 → pos v -ℤ pos 65536 ≡ negsuc (65535 - v)
below_zero v low high = omega (arith, ints)

abbrev of_sign : Bool → ℕ → ℤ
of_sign p v = if p then pos v -ℤ pos 65536 else pos v

fits_of : (p : Bool) (v : ℕ) → nat_le 32768 v ≡ p → v < 65536 → in_range 65536 (of_sign p v) ≡ true
fits_of true v e h =
    let low = leb-true 32768 v e in
    ap (in_range 65536) (below_zero v low h) ∙ negative_fits (65535 - v) (omega (arith, low))
fits_of false v e h = positive_fits v (leb-false 32768 v e)

fits : (v : ℕ) → v < 65536 → in_range 65536 (signed 65536 v) ≡ true
fits v h = fits_of (nat_le 32768 v) v refl h

word_of_sign : (p : Bool) (v : ℕ) → nat_le 32768 v ≡ p → v < 65536 → signed_word (of_sign p v) ≡ v
word_of_sign true v e h =
    let again : 65535 - (65535 - v) ≡ v = omega (arith, h) in
    ap signed_word (below_zero v (leb-true 32768 v e) h) ∙ again
word_of_sign false v e h = refl

number_again : (z : ℤ) → in_range 65536 z ≡ true → signed 65536 (signed_word z) ≡ z
number_again (pos n) e = rw (lt-leb 32768 n (positive_small n e)) refl
number_again (negsuc n) e =
    let small = negative_small n e in
    let high : 32768 ≤ 65535 - n = omega (arith, small) in
    let again : 65535 - (65535 - n) ≡ n = omega (arith, small) in
    rw (le-leb 32768 (65535 - n) high) (below_zero (65535 - n) high (omega (arith, small)) ∙ ap negsuc again)

-- ---- which quotients words have

minus_fits : (n : ℕ) → n ≤ 32768 → in_range 65536 (neg_ℤ (pos n)) ≡ true
minus_fits zero h = refl
minus_fits (suc n) h = negative_fits n (omega (arith, h))

-- a quotient of 32,768 leaves the range only where nothing is divided but by 1
halved : (m n : ℕ) → m ≤ 32768 → m / suc (suc n) < 32768
halved m n h =
    let more : m / suc (suc n) * 2 ≤ m / suc (suc n) * suc (suc n) = mul-le-mul_left (m / suc (suc n)) (omega arith) in
    omega (arith, div-add-mod' m (suc (suc n)), more, h)

by_one : (m : ℕ) → m / 1 ≤ m
by_one m = div-le_self m 1

quotient_fits : (a b : ℤ) → in_range 65536 a ≡ true → (a ≡ negsuc 32767 → b ≡ negsuc 0 → ⊥) → in_range 65536 (int_div a b) ≡ true
quotient_fits (pos a) (pos b) e clash = positive_fits (a / b) (omega (arith, div-le_self a b, positive_small a e))
quotient_fits (pos a) (negsuc b) e clash = minus_fits (a / suc b) (omega (arith, div-le_self a (suc b), positive_small a e))
quotient_fits (negsuc a) (pos b) e clash = minus_fits (suc a / b) (omega (arith, div-le_self (suc a) b, negative_small a e))
quotient_fits (negsuc a) (negsuc (suc b)) e clash = positive_fits (suc a / suc (suc b)) (halved (suc a) b (omega (arith, negative_small a e)))
quotient_fits (negsuc a) (negsuc zero) e clash = by (nat_eq a 32767) refl
  where
    by : (t : Bool) → nat_eq a 32767 ≡ t → in_range 65536 (pos (suc a / 1)) ≡ true
    by true is = absurd (clash (ap negsuc (eqb-true a 32767 is)) refl)
    by false is =
        let other : a < 32767 = omega (arith, negative_small a e, eqb-false a 32767 is) in
        positive_fits (suc a / 1) (omega (arith, by_one (suc a), other))

least_of : (p : Bool) (v : ℕ) → nat_le 32768 v ≡ p → v < 65536 → of_sign p v ≡ negsuc 32767 → v ≡ 32768
least_of p v e h is = sym (word_of_sign p v e h) ∙ ap signed_word is

last_of : (p : Bool) (v : ℕ) → nat_le 32768 v ≡ p → v < 65536 → of_sign p v ≡ negsuc 0 → v ≡ 65535
last_of p v e h is = sym (word_of_sign p v e h) ∙ ap signed_word is

-- there is a quotient exactly where the divisor is not zero and a word has it
exists : (x y : ℕ) → x < 65536 → y < 65536 → has_quotient x y ≡ (not (nat_eq y 0) && in_range 65536 (int_div (signed 65536 x) (signed 65536 y)))
exists x zero hx hy = refl
exists x (suc y) hx hy =
    by (nat_eq x 32768) (nat_eq (suc y) 65535) refl refl
    ∙ sym (ap (λ (b : Bool). not b && in_range 65536 (int_div (signed 65536 x) (signed 65536 (suc y)))) (ne_eqb (suc y) 0 (λ e. omega (arith, e))))
  where
    within : (x ≡ 32768 → suc y ≡ 65535 → ⊥) → true ≡ in_range 65536 (int_div (signed 65536 x) (signed 65536 (suc y)))
    within other = sym (quotient_fits (signed 65536 x) (signed 65536 (suc y)) (fits x hx) (λ a b. other (least_of (nat_le 32768 x) x refl hx a) (last_of (nat_le 32768 (suc y)) (suc y) refl hy b)))

    by : (s t : Bool) → nat_eq x 32768 ≡ s → nat_eq (suc y) 65535 ≡ t → (if s then not t else true) ≡ in_range 65536 (int_div (signed 65536 x) (signed 65536 (suc y)))
    by true true e g = rw (eqb-true x 32768 e, eqb-true (suc y) 65535 g) refl
    by true false e g = within (λ a b. eqb-false (suc y) 65535 g b)
    by false t e g = within (λ a b. eqb-false x 32768 e a)

-- ---- quotient and remainder

negative_part : (r : ℕ) → (neg_ℤ (pos r) ≡ pos 0) ⊎ (int_lt (neg_ℤ (pos r)) (pos 0) ≡ true)
negative_part zero = inl refl
negative_part (suc r) = inr refl

sign_kept : (a d : ℤ) → (int_rem a d ≡ pos 0) ⊎ (int_lt (int_rem a d) (pos 0) ≡ int_lt a (pos 0))
sign_kept (pos a) d = inr (le-ltb (a % unsigned_abs d) 0 (omega arith) ∙ sym (le-ltb a 0 (omega arith)))
sign_kept (negsuc a) d = negative_part (suc a % unsigned_abs d)

is_quotient : (a b : ℤ) → 0 < unsigned_abs b → IsQuotient a b (int_div a b) (int_rem a b)
is_quotient a b h = record { sum = quot-rem a b; smaller = rem_below a b h; same_sign = sign_kept a b }

small_size : (z : ℤ) → in_range 65536 z ≡ true → unsigned_abs z ≤ 32768
small_size (pos n) e = omega (arith, positive_small n e)
small_size (negsuc n) e = omega (arith, negative_small n e)

size_fits : (z : ℤ) → unsigned_abs z < 32768 → in_range 65536 z ≡ true
size_fits (pos n) h = positive_fits n h
size_fits (negsuc n) h = negative_fits n (omega (arith, h))

some_size : (p : Bool) (v : ℕ) → nat_le 32768 v ≡ p → v < 65536 → 0 < v → 0 < unsigned_abs (of_sign p v)
some_size true v e h some = ap_size (below_zero v (leb-true 32768 v e) h)
  where
    ap_size : pos v -ℤ pos 65536 ≡ negsuc (65535 - v) → 0 < unsigned_abs (pos v -ℤ pos 65536)
    ap_size is = subst (λ z. 0 < unsigned_abs z) (sym is) (omega arith)
some_size false v e h some = some

abbrev or_zero : Option ℕ → ℕ
or_zero None = 0
or_zero (Some n) = n

-- what an answer says
answered : (t : Bool) (v q : ℕ) → (if t then Some v else None) ≡ Some q → (t ≡ true) × (v ≡ q)
answered true v q e = (refl, ap or_zero e)
answered false v q e = absurd (let wrong = e in cc)

positive : (x y : ℕ) → has_quotient x y ≡ true → 0 < y
positive x zero e = absurd (true≢false (sym e))
positive x (suc y) e = omega arith

divided : (x y q r : ℕ) → x < 65536 → y < 65536 → signed_quotient x y ≡ Some q → signed_remainder x y ≡ Some r → IsQuotient (signed 65536 x) (signed 65536 y) (signed 65536 q) (signed 65536 r)
divided x y q r hx hy is_q is_r =
    let a = signed 65536 x in
    let b = signed 65536 y in
    let got = answered (has_quotient x y) (signed_word (int_div a b)) q is_q in
    let rest = answered (has_quotient x y) (signed_word (int_rem a b)) r is_r in
    let some : 0 < unsigned_abs b = some_size (nat_le 32768 y) y refl hy (positive x y got.0) in
    let within : in_range 65536 (int_div a b) ≡ true = (and_parts (not (nat_eq y 0)) (in_range 65536 (int_div a b)) (sym (exists x y hx hy) ∙ got.0)).1 in
    let small : in_range 65536 (int_rem a b) ≡ true = size_fits (int_rem a b) (omega (arith, rem_below a b some, small_size b (fits y hy))) in
    let quotient : int_div a b ≡ signed 65536 q = sym (number_again (int_div a b) within) ∙ ap (signed 65536) got.1 in
    let remainder : int_rem a b ≡ signed 65536 r = sym (number_again (int_rem a b) small) ∙ ap (signed 65536) rest.1 in
    subst (λ z. IsQuotient a b z (signed 65536 r)) quotient (subst (λ z. IsQuotient a b (int_div a b) z) remainder (is_quotient a b some))

pub signed_tells : SignedLaw
signed_tells = record { positive = positive; fits = fits; word_again = λ v h. word_of_sign (nat_le 32768 v) v refl h; number_again = number_again; exists = exists; divided = divided }
