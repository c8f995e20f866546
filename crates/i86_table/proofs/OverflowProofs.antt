-- OF is set exactly where a result with sign leaves the range of its width.
use Rattle.std.proofs.Common.{◌≡◌, ℕ, ◌+◌, ◌-◌, ◌%◌, ◌<◌, ◌==◌, ◌&&◌, not, Bool, true, false, List, [], ◌∷◌, ap, ◌∙◌, refl, nat_le, nat_lt, lit<, count_ones, arith, if◌then◌else◌}
use Rattle.std.specs.Prelude.{ℤ, pos, ◌+ℤ◌, ◌-ℤ◌, neg_ℤ}
use Rattle.std.proofs.lemmas.Int.{ints}
use Rattle.word86.specs.declared.width.Width.{Width}
use Rattle.word86.specs.declared.width.Width.TheVariants.{Byte, Word}
use Rattle.i86_table.specs.declared.instruction.UnaryOperation.TheVariants.{Neg, Inc, Dec}
use Rattle.i86_table.specs.declared.flags.Flags.{Flags}
use Rattle.word86.specs.Access.{values}
use Rattle.i86_table.specs.Arithmetic.{number_of, sign, same, is_carry, carry, with_result, added, subtracted, operated, changed}
use Rattle.word86.specs.Signed.{signed, in_range}
use Rattle.i86_table.specs.ArithmeticLaw.{OverflowTells, OverflowLaws}
use Rattle.i86_table.proofs.FlagLists.{Row, has_put}
use Rattle.i86_table.proofs.FlagProofs.{has_other}

-- ---- numbers

-- a number of this sign
abbrev of_sign : Bool → (size a : ℕ) → ℤ
of_sign p size a = if p then pos a -ℤ pos size else pos a

sum_of : (w : Width) (p q : Bool) (a b k : ℕ) → sign w a ≡ p → sign w b ≡ q → a < values w → b < values w → k < 2 → (same p q && not (same (sign w ((a + b + k) % values w)) p)) ≡ not (in_range (values w) (of_sign p (values w) a +ℤ of_sign q (values w) b +ℤ pos k))
sum_of Byte true true a b k e g ha hb hk = grind (arith, ints)
sum_of Byte true false a b k e g ha hb hk = grind (arith, ints)
sum_of Byte false true a b k e g ha hb hk = grind (arith, ints)
sum_of Byte false false a b k e g ha hb hk = grind (arith, ints)
sum_of Word true true a b k e g ha hb hk = grind (arith, ints)
sum_of Word true false a b k e g ha hb hk = grind (arith, ints)
sum_of Word false true a b k e g ha hb hk = grind (arith, ints)
sum_of Word false false a b k e g ha hb hk = grind (arith, ints)

difference_of : (w : Width) (p q : Bool) (a b k : ℕ) → sign w a ≡ p → sign w b ≡ q → a < values w → b < values w → k < 2 → (not (same p q) && not (same (sign w ((a + values w - (b + k)) % values w)) p)) ≡ not (in_range (values w) (of_sign p (values w) a -ℤ of_sign q (values w) b -ℤ pos k))
difference_of Byte true true a b k e g ha hb hk = grind (arith, ints)
difference_of Byte true false a b k e g ha hb hk = grind (arith, ints)
difference_of Byte false true a b k e g ha hb hk = grind (arith, ints)
difference_of Byte false false a b k e g ha hb hk = grind (arith, ints)
difference_of Word true true a b k e g ha hb hk = grind (arith, ints)
difference_of Word true false a b k e g ha hb hk = grind (arith, ints)
difference_of Word false true a b k e g ha hb hk = grind (arith, ints)
difference_of Word false false a b k e g ha hb hk = grind (arith, ints)

sum_leaves : (w : Width) (a b k : ℕ) → a < values w → b < values w → k < 2 → (same (sign w a) (sign w b) && not (same (sign w ((a + b + k) % values w)) (sign w a))) ≡ not (in_range (values w) (signed (values w) a +ℤ signed (values w) b +ℤ pos k))
sum_leaves Byte a b k ha hb hk = sum_of Byte (sign Byte a) (sign Byte b) a b k refl refl ha hb hk
sum_leaves Word a b k ha hb hk = sum_of Word (sign Word a) (sign Word b) a b k refl refl ha hb hk

difference_leaves : (w : Width) (a b k : ℕ) → a < values w → b < values w → k < 2 → (not (same (sign w a) (sign w b)) && not (same (sign w ((a + values w - (b + k)) % values w)) (sign w a))) ≡ not (in_range (values w) (signed (values w) a -ℤ signed (values w) b -ℤ pos k))
difference_leaves Byte a b k ha hb hk = difference_of Byte (sign Byte a) (sign Byte b) a b k refl refl ha hb hk
difference_leaves Word a b k ha hb hk = difference_of Word (sign Word a) (sign Word b) a b k refl refl ha hb hk

carry_small : (c : Bool) → number_of c < 2
carry_small true = omega arith
carry_small false = omega arith

-- ---- the flag

-- the flags that a sum or a difference sets, the last first
abbrev six : (p s z o a c : Bool) → List Row
six p s z o a c = (4, p) ∷ (128, s) ∷ (64, z) ∷ (2048, o) ∷ (16, a) ∷ (1, c) ∷ []

added_overflow : (w : Width) (a b : ℕ) (c : Bool) (f : Flags) → a < values w → b < values w → OverflowTells w (signed (values w) a +ℤ signed (values w) b +ℤ pos (number_of c)) (added w a b c f).flags
unfolding added with_result
added_overflow w a b c f ha hb =
    let v = (a + b + number_of c) % values w in
    has_put (six (count_ones (v % 256) % 2 == 0) (sign w v) (v == 0) (same (sign w a) (sign w b) && not (same (sign w v) (sign w a))) (nat_le 16 (a % 16 + b % 16 + number_of c)) (nat_le (values w) (a + b + number_of c))) 2048 f (refl, refl, (refl, refl, (refl, refl, (lit< tt, refl))))
    ∙ sum_leaves w a b (number_of c) ha hb (carry_small c)

subtracted_overflow : (w : Width) (a b : ℕ) (c : Bool) (f : Flags) → a < values w → b < values w → OverflowTells w (signed (values w) a -ℤ signed (values w) b -ℤ pos (number_of c)) (subtracted w a b c f).flags
unfolding subtracted with_result
subtracted_overflow w a b c f ha hb =
    let v = (a + values w - (b + number_of c)) % values w in
    has_put (six (count_ones (v % 256) % 2 == 0) (sign w v) (v == 0) (not (same (sign w a) (sign w b)) && not (same (sign w v) (sign w a))) (nat_lt (a % 16) (b % 16 + number_of c)) (nat_lt a (b + number_of c))) 2048 f (refl, refl, (refl, refl, (refl, refl, (lit< tt, refl))))
    ∙ difference_leaves w a b (number_of c) ha hb (carry_small c)

-- ---- the operations

to : (w : Width) (f : Flags) {x y : ℤ} → x ≡ y → OverflowTells w x f → OverflowTells w y f
to w f e h = h ∙ ap (λ (z : ℤ). not (in_range (values w) z)) e

plus_none : (x : ℤ) → x +ℤ pos 0 ≡ x
plus_none x = omega (arith, ints)

less_none : (x : ℤ) → x -ℤ pos 0 ≡ x
less_none x = omega (arith, ints)

negative : (x : ℤ) → pos 0 -ℤ x -ℤ pos 0 ≡ neg_ℤ x
negative x = omega (arith, ints)

-- INC and DEC keep the carry alone
kept : (w : Width) (z : ℤ) (c : Bool) (f : Flags) → OverflowTells w z f → OverflowTells w z (carry c f)
kept w z c f h = has_other 1 2048 c f refl refl ∙ h

neg_overflow : (w : Width) (a : ℕ) (f : Flags) → a < values w → OverflowTells w (neg_ℤ (signed (values w) a)) (changed Neg w a f).flags
unfolding changed
neg_overflow Byte a f h = to Byte (subtracted Byte 0 a false f).flags (negative (signed 256 a)) (subtracted_overflow Byte 0 a false f (lit< tt) h)
neg_overflow Word a f h = to Word (subtracted Word 0 a false f).flags (negative (signed 65536 a)) (subtracted_overflow Word 0 a false f (lit< tt) h)

inc_overflow : (w : Width) (a : ℕ) (f : Flags) → a < values w → OverflowTells w (signed (values w) a +ℤ pos 1) (changed Inc w a f).flags
unfolding changed
inc_overflow Byte a f h = kept Byte (signed 256 a +ℤ pos 1) (is_carry f) (added Byte a 1 false f).flags (to Byte (added Byte a 1 false f).flags (plus_none (signed 256 a +ℤ pos 1)) (added_overflow Byte a 1 false f h (lit< tt)))
inc_overflow Word a f h = kept Word (signed 65536 a +ℤ pos 1) (is_carry f) (added Word a 1 false f).flags (to Word (added Word a 1 false f).flags (plus_none (signed 65536 a +ℤ pos 1)) (added_overflow Word a 1 false f h (lit< tt)))

dec_overflow : (w : Width) (a : ℕ) (f : Flags) → a < values w → OverflowTells w (signed (values w) a -ℤ pos 1) (changed Dec w a f).flags
unfolding changed
dec_overflow Byte a f h = kept Byte (signed 256 a -ℤ pos 1) (is_carry f) (subtracted Byte a 1 false f).flags (to Byte (subtracted Byte a 1 false f).flags (less_none (signed 256 a -ℤ pos 1)) (subtracted_overflow Byte a 1 false f h (lit< tt)))
dec_overflow Word a f h = kept Word (signed 65536 a -ℤ pos 1) (is_carry f) (subtracted Word a 1 false f).flags (to Word (subtracted Word a 1 false f).flags (less_none (signed 65536 a -ℤ pos 1)) (subtracted_overflow Word a 1 false f h (lit< tt)))

pub overflow_tells : OverflowLaws
unfolding operated
overflow_tells = record {
  add = λ w a b f ha hb. to w (added w a b false f).flags (plus_none _) (added_overflow w a b false f ha hb);
  adc = λ w a b f ha hb. added_overflow w a b (is_carry f) f ha hb;
  sub = λ w a b f ha hb. to w (subtracted w a b false f).flags (less_none _) (subtracted_overflow w a b false f ha hb);
  sbb = λ w a b f ha hb. subtracted_overflow w a b (is_carry f) f ha hb;
  cmp = λ w a b f ha hb. to w (subtracted w a b false f).flags (less_none _) (subtracted_overflow w a b false f ha hb);
  neg = neg_overflow;
  inc = inc_overflow;
  dec = dec_overflow;
}
