-- Comparisons and divisions of words with sign.
use Rattle.std.proofs.Common.{◌≡◌, ℕ, zero, suc, ◌+◌, ◌-◌, ◌*◌, ◌/◌, ◌%◌, ◌<◌, ◌≤◌, ◌==◌, ◌&&◌, ◌||◌, not, Bool, true, false, List, [], ◌∷◌, Option, Some, None, ap, ◌∙◌, refl, sym, subst, nat_le, nat_lt, nat_eq, lit<, count_ones, arith, if◌then◌else◌, ◌⊎◌, inl, inr}
use Rattle.std.specs.Prelude.{ℤ, pos, ◌-ℤ◌, int_lt, int_div, int_rem}
use Rattle.std.specs.Int.RustNames.{bit_and}
use Rattle.std.specs.Int.Bits.{and_self}
use Rattle.std.proofs.lemmas.Int.{ints}
use Rattle.std.proofs.lemmas.Nat.{mod_below}
use Rattle.std.proofs.Math.Nat.{div-le_self}
use Rattle.std.proofs.lemmas.Bool.{true≢false, cases_lt, lt-ltb, le-ltb, le-leb, lt-leb, and_parts}
use Rattle.word86.specs.declared.width.Width.TheVariants.{Word}
use Rattle.word86.specs.Signed.{signed, in_range, signed_word, signed_less, has_quotient, signed_quotient, signed_remainder}
use Rattle.word86.specs.DivisionLaw.{SignedLaw}
use Rattle.i86_table.specs.declared.instruction.AluOperation.TheVariants.{Cmp}
use Rattle.i86_table.specs.declared.instruction.Condition.TheVariants.{Less, LessOrEqual}
use Rattle.i86_table.specs.declared.instruction.Signedness.TheVariants.{Signed}
use Rattle.i86_table.specs.declared.outcome.Division.{Division}
use Rattle.i86_table.specs.declared.flags.Flags.{Flags}
use Rattle.i86_table.specs.Arithmetic.{sign, same, has, with_result, subtracted, combined, operated, tested, sign_word, divided, magnitude, is_negative, with_sign}
use Rattle.i86_table.specs.Condition.{holds}
use Rattle.i86_table.specs.SignedLaw.{SignedLaws}
use Rattle.i86_table.proofs.FlagLists.{Row, has_put}
use Rattle.i86_table.proofs.ProductProofs.{minus, parts, even_width, magnitude_small, magnitude_some, quotient_parts, remainder_parts, found, quotient_tells}

-- ---- comparisons

abbrev of_sign : Bool → ℕ → ℤ
of_sign p a = if p then pos a -ℤ pos 65536 else pos a

abbrev low : (a b : ℕ) → ℕ
low a b = (a + 65536 - (b + 0)) % 65536

-- SF and OF differ
abbrev differ : (p q : Bool) → (a b : ℕ) → Bool
differ p q a b = not (same (sign Word (low a b)) (not (same p q) && not (same (sign Word (low a b)) p)))

less_of : (p q : Bool) (a b : ℕ) → sign Word a ≡ p → sign Word b ≡ q → a < 65536 → b < 65536 → differ p q a b ≡ int_lt (of_sign p a) (of_sign q b)
less_of true true a b e g ha hb = grind (arith, ints)
less_of true false a b e g ha hb = grind (arith, ints)
less_of false true a b e g ha hb = grind (arith, ints)
less_of false false a b e g ha hb = grind (arith, ints)

either_of : (p q : Bool) (a b : ℕ) → sign Word a ≡ p → sign Word b ≡ q → a < 65536 → b < 65536 → ((low a b == 0) || differ p q a b) ≡ not (int_lt (of_sign q b) (of_sign p a))
either_of true true a b e g ha hb = grind (arith, ints)
either_of true false a b e g ha hb = grind (arith, ints)
either_of false true a b e g ha hb = grind (arith, ints)
either_of false false a b e g ha hb = grind (arith, ints)

abbrev rows : (p s z o a c : Bool) → List Row
rows p s z o a c = (4, p) ∷ (128, s) ∷ (64, z) ∷ (2048, o) ∷ (16, a) ∷ (1, c) ∷ []

abbrev rows_of : (a b : ℕ) → List Row
rows_of a b = rows (count_ones (low a b % 256) % 2 == 0) (sign Word (low a b)) (low a b == 0) (not (same (sign Word a) (sign Word b)) && not (same (sign Word (low a b)) (sign Word a))) (nat_lt (a % 16) (b % 16 + 0)) (nat_lt a (b + 0))

sign_after : (a b : ℕ) (f : Flags) → has (subtracted Word a b false f).flags 128 ≡ sign Word (low a b)
unfolding subtracted with_result
sign_after a b f = has_put (rows_of a b) 128 f (refl, refl, (lit< tt, refl))

zero_after : (a b : ℕ) (f : Flags) → has (subtracted Word a b false f).flags 64 ≡ (low a b == 0)
unfolding subtracted with_result
zero_after a b f = has_put (rows_of a b) 64 f (refl, refl, (refl, refl, (lit< tt, refl)))

overflow_after : (a b : ℕ) (f : Flags) → has (subtracted Word a b false f).flags 2048 ≡ (not (same (sign Word a) (sign Word b)) && not (same (sign Word (low a b)) (sign Word a)))
unfolding subtracted with_result
overflow_after a b f = has_put (rows_of a b) 2048 f (refl, refl, (refl, refl, (refl, refl, (lit< tt, refl))))

differ_after : (a b : ℕ) (f : Flags) → not (same (has (subtracted Word a b false f).flags 128) (has (subtracted Word a b false f).flags 2048)) ≡ differ (sign Word a) (sign Word b) a b
differ_after a b f = ap (λ (x : Bool). not (same x (has (subtracted Word a b false f).flags 2048))) (sign_after a b f) ∙ ap (λ (x : Bool). not (same (sign Word (low a b)) x)) (overflow_after a b f)

less : (a b : ℕ) (f : Flags) → a < 65536 → b < 65536 → holds Less (operated Cmp Word a b f).flags ≡ signed_less a b
unfolding operated
less a b f ha hb = differ_after a b f ∙ less_of (sign Word a) (sign Word b) a b refl refl ha hb

less_or_equal : (a b : ℕ) (f : Flags) → a < 65536 → b < 65536 → holds LessOrEqual (operated Cmp Word a b f).flags ≡ not (signed_less b a)
unfolding operated
less_or_equal a b f ha hb =
    ap (λ (x : Bool). has (subtracted Word a b false f).flags 64 || x) (differ_after a b f)
    ∙ ap (λ (x : Bool). x || differ (sign Word a) (sign Word b) a b) (zero_after a b f)
    ∙ either_of (sign Word a) (sign Word b) a b refl refl ha hb

-- ---- tests

abbrev five : (p s z o c : Bool) → List Row
five p s z o c = (4, p) ∷ (128, s) ∷ (64, z) ∷ (2048, o) ∷ (1, c) ∷ []

abbrev five_of : ℕ → List Row
five_of v = five (count_ones (v % 256) % 2 == 0) (sign Word v) (v == 0) false false

test_sign : (v : ℕ) (f : Flags) → has (combined Word v f).flags 128 ≡ sign Word v
unfolding combined with_result
test_sign v f = has_put (five_of v) 128 f (refl, refl, (lit< tt, refl))

test_zero : (v : ℕ) (f : Flags) → has (combined Word v f).flags 64 ≡ (v == 0)
unfolding combined with_result
test_zero v f = has_put (five_of v) 64 f (refl, refl, (refl, refl, (lit< tt, refl)))

test_overflow : (v : ℕ) (f : Flags) → has (combined Word v f).flags 2048 ≡ false
unfolding combined with_result
test_overflow v f = has_put (five_of v) 2048 f (refl, refl, (refl, refl, (refl, refl, (lit< tt, refl))))

same_false : (s : Bool) → not (same s false) ≡ s
same_false true = refl
same_false false = refl

test_differ : (v : ℕ) (f : Flags) → not (same (has (combined Word v f).flags 128) (has (combined Word v f).flags 2048)) ≡ sign Word v
test_differ v f = ap (λ (x : Bool). not (same x (has (combined Word v f).flags 2048))) (test_sign v f) ∙ ap (λ (x : Bool). not (same (sign Word v) x)) (test_overflow v f) ∙ same_false (sign Word v)

below_zero : (p : Bool) (a : ℕ) → sign Word a ≡ p → a < 65536 → p ≡ int_lt (of_sign p a) (pos 0)
below_zero true a e h = grind (arith, ints)
below_zero false a e h = grind (arith, ints)

up_to_zero : (p : Bool) (a : ℕ) → sign Word a ≡ p → a < 65536 → ((a == 0) || p) ≡ not (int_lt (pos 0) (of_sign p a))
up_to_zero true a e h = grind (arith, ints)
up_to_zero false a e h = grind (arith, ints)

negative : (a : ℕ) (f : Flags) → a < 65536 → holds Less (tested Word a a f) ≡ signed_less a 0
negative a f h = test_differ (bit_and a a) f ∙ ap (sign Word) (and_self a) ∙ below_zero (sign Word a) a refl h

not_positive : (a : ℕ) (f : Flags) → a < 65536 → holds LessOrEqual (tested Word a a f) ≡ not (signed_less 0 a)
not_positive a f h =
    ap (λ (x : Bool). has (combined Word (bit_and a a) f).flags 64 || x) (test_differ (bit_and a a) f)
    ∙ ap (λ (x : Bool). x || sign Word (bit_and a a)) (test_zero (bit_and a a) f)
    ∙ ap (λ v. (v == 0) || sign Word v) (and_self a)
    ∙ up_to_zero (sign Word a) a refl h

-- ---- divisions

-- the upper word of CWD keeps sign and absolute value
wide_sign : (a : ℕ) → is_negative (65536 * 65536) (sign_word a * 65536 + a) ≡ is_negative 65536 a
wide_sign a = by (cases_lt a 32768)
  where
    by : (a < 32768) ⊎ (32768 ≤ a) → nat_le 2147483648 ((if nat_lt a 32768 then 0 else 65535) * 65536 + a) ≡ nat_le 32768 a
    by (inl l) = rw (lt-ltb a 32768 l) (lt-leb 2147483648 (0 * 65536 + a) (omega (arith, l)) ∙ sym (lt-leb 32768 a l))
    by (inr l) = rw (le-ltb a 32768 l) (le-leb 2147483648 (65535 * 65536 + a) (omega (arith, l)) ∙ sym (le-leb 32768 a l))

wide_magnitude : (a : ℕ) → a < 65536 → magnitude (65536 * 65536) (sign_word a * 65536 + a) ≡ magnitude 65536 a
wide_magnitude a h = by (cases_lt a 32768)
  where
    by : (a < 32768) ⊎ (32768 ≤ a) → magnitude (65536 * 65536) ((if nat_lt a 32768 then 0 else 65535) * 65536 + a) ≡ magnitude 65536 a
    by (inl l) = rw (lt-ltb a 32768 l) (rw (lt-ltb (0 * 65536 + a) 2147483648 (omega (arith, l))) (omega arith))
    by (inr l) = rw (le-ltb a 32768 l) (rw (le-ltb (65535 * 65536 + a) 2147483648 (omega (arith, l))) (omega (arith, l, h)))

wide_below : (a : ℕ) → a < 65536 → sign_word a * 65536 + a < 65536 * 65536
wide_below a h = by (nat_lt a 32768)
  where
    by : (t : Bool) → (if t then 0 else 65535) * 65536 + a < 65536 * 65536
    by true = omega (arith, h)
    by false = omega (arith, h)

wide_number : (a : ℕ) → a < 65536 → signed (65536 * 65536) (sign_word a * 65536 + a) ≡ signed 65536 a
wide_number a h =
    parts (65536 * 65536) (sign_word a * 65536 + a) (wide_below a h)
    ∙ ap (λ (p : Bool). minus p (magnitude (65536 * 65536) (sign_word a * 65536 + a))) (wide_sign a)
    ∙ ap (minus (is_negative 65536 a)) (wide_magnitude a h)
    ∙ sym (parts 65536 a h)

-- the word of a number by its sign and its absolute value
word_of_parts : (p : Bool) (m : ℕ) → m ≤ 65535 → signed_word (minus p m) ≡ with_sign 65536 p m
word_of_parts true zero h = refl
word_of_parts true (suc m) h = omega (arith, h)
word_of_parts false m h = refl

sign_small : (p : Bool) (m : ℕ) → m ≤ 65535 → with_sign 65536 p m < 65536
sign_small true m h = omega arith
sign_small false m h = omega (arith, h)

module _ (law : SignedLaw) (a b : ℕ) (ha : a < 65536) (hb : b < 65536) (h : has_quotient a b ≡ true) where
  abbrev wide : ℕ
  wide = sign_word a * 65536 + a

  abbrev p : Bool
  p = is_negative 65536 a

  abbrev q : Bool
  q = is_negative 65536 b

  abbrev m : ℕ
  m = magnitude 65536 a

  abbrev n : ℕ
  n = magnitude 65536 b

  within : in_range 65536 (int_div (signed 65536 a) (signed 65536 b)) ≡ true
  within = (and_parts (not (nat_eq b 0)) (in_range 65536 (int_div (signed 65536 a) (signed 65536 b))) (sym (law.exists a b ha hb) ∙ h)).1

  no_fault : divided Signed Word wide b ≡ None → ⊥
  no_fault e = by (quotient_tells.idiv_fault Word wide b (wide_below a ha) hb e)
    where
      by : (b ≡ 0) ⊎ (in_range 65536 (int_div (signed (65536 * 65536) (sign_word a * 65536 + a)) (signed 65536 b)) ≡ false) → ⊥
      by (inl none) = omega (arith, none, law.positive a b h)
      by (inr out) = true≢false (sym within ∙ ap (λ (z : ℤ). in_range 65536 (int_div z (signed 65536 b))) (sym (wide_number a ha)) ∙ out)

  quotient_is : int_div (signed 65536 a) (signed 65536 b) ≡ minus (not (same p q)) (m / n)
  quotient_is = ap (λ (z : ℤ). int_div z (signed 65536 b)) (parts 65536 a ha) ∙ ap (int_div (minus p m)) (parts 65536 b hb) ∙ quotient_parts p q m n

  remainder_is : int_rem (signed 65536 a) (signed 65536 b) ≡ minus p (m % n)
  remainder_is = ap (λ (z : ℤ). int_rem z (signed 65536 b)) (parts 65536 a ha) ∙ ap (int_rem (minus p m)) (parts 65536 b hb) ∙ remainder_parts p q m n

  -- what the processor answers
  abbrev answer : Bool → ℕ → Division
  answer s k = record { quotient = with_sign 65536 (not (same s q)) (k / n); remainder = with_sign 65536 s (k % n) }

  answer_is : (d : Division) → divided Signed Word wide b ≡ Some d → answer p m ≡ d
  unfolding divided
  answer_is d e =
      ap (answer p) (sym (wide_magnitude a ha)) ∙ ap (λ (s : Bool). answer s (magnitude (65536 * 65536) wide)) (sym (wide_sign a))
      ∙ (found (b == 0) (nat_lt (if not (same (is_negative (65536 * 65536) wide) q) then 32768 else 32767) (magnitude (65536 * 65536) wide / n)) (answer (is_negative (65536 * 65536) wide) (magnitude (65536 * 65536) wide)) d e).2

  small : m ≤ 32768
  small = magnitude_small 65536 a (even_width Word)

  rest : m % n ≤ 65535
  rest = omega (arith, mod_below m n (magnitude_some 65536 b hb (law.positive a b h)), magnitude_small 65536 b (even_width Word))

  few : m / n ≤ 65535
  few = omega (arith, div-le_self m n, small)

  quotient_word : signed_quotient a b ≡ Some (with_sign 65536 (not (same p q)) (m / n))
  quotient_word =
      ap (λ (t : Bool). if t then Some (signed_word (int_div (signed 65536 a) (signed 65536 b))) else None) h
      ∙ ap (λ (z : ℤ). Some (signed_word z)) quotient_is ∙ ap Some (word_of_parts (not (same p q)) (m / n) few)

  remainder_word : signed_remainder a b ≡ Some (with_sign 65536 p (m % n))
  remainder_word =
      ap (λ (t : Bool). if t then Some (signed_word (int_rem (signed 65536 a) (signed 65536 b))) else None) h
      ∙ ap (λ (z : ℤ). Some (signed_word z)) remainder_is ∙ ap Some (word_of_parts p (m % n) rest)

  divides : (d : Division) × (divided Signed Word wide b ≡ Some d) × (signed_quotient a b ≡ Some d.quotient) × (signed_remainder a b ≡ Some d.remainder) × (d.quotient < 65536) × (d.remainder < 65536)
  divides = by (divided Signed Word wide b) refl
    where
      by : (o : Option Division) → divided Signed Word wide b ≡ o → (d : Division) × (divided Signed Word wide b ≡ Some d) × (signed_quotient a b ≡ Some d.quotient) × (signed_remainder a b ≡ Some d.remainder) × (d.quotient < 65536) × (d.remainder < 65536)
      by None e = absurd (no_fault e)
      by (Some d) e =
          let is = answer_is d e in (
            d,
            e,
            quotient_word ∙ ap (λ (x : Division). Some x.quotient) is,
            remainder_word ∙ ap (λ (x : Division). Some x.remainder) is,
            subst (λ (x : Division). x.quotient < 65536) is (sign_small (not (same p q)) (m / n) few),
            subst (λ (x : Division). x.remainder < 65536) is (sign_small p (m % n) rest),
          )

-- ---- sign bits turned

turned_of : (p q : Bool) (a b : ℕ) → nat_le 32768 a ≡ p → nat_le 32768 b ≡ q → a < 65536 → b < 65536 → nat_lt ((a + 32768) % 65536) ((b + 32768) % 65536) ≡ int_lt (of_sign p a) (of_sign q b)
turned_of true true a b e g ha hb = grind (arith, ints)
turned_of true false a b e g ha hb = grind (arith, ints)
turned_of false true a b e g ha hb = grind (arith, ints)
turned_of false false a b e g ha hb = grind (arith, ints)

pub signed_tells : SignedLaw → SignedLaws
signed_tells law = record { turned = λ a b ha hb. turned_of (nat_le 32768 a) (nat_le 32768 b) a b refl refl ha hb; less = less; less_or_equal = less_or_equal; negative = negative; not_positive = not_positive; divides = divides law }
