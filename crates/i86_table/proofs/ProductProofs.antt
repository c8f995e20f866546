-- Products and quotients are those of numbers with sign.
use Rattle.std.proofs.Common.{◌≡◌, ℕ, zero, suc, ◌+◌, ◌-◌, ◌*◌, ◌/◌, ◌%◌, ◌<◌, ◌≤◌, ◌==◌, not, Bool, true, false, [], ◌∷◌, Option, Some, None, ap, ◌∙◌, refl, sym, subst, nat_le, nat_lt, lit<, arith, if◌then◌else◌, ◌⊎◌, inl, inr}
use Rattle.std.specs.Prelude.{ℤ, pos, negsuc, ◌+ℤ◌, ◌-ℤ◌, ◌*ℤ◌, neg_ℤ, int_div, int_rem, int_lt, unsigned_abs}
use Rattle.std.proofs.lemmas.Int.{ints}
use Rattle.std.proofs.lemmas.Bool.{true≢false, leb-true, leb-false, ltb-true, ltb-false, lt-ltb, le-ltb, le-leb, lt-leb, eqb-true}
use Rattle.std.proofs.lemmas.Nat.{div-add-mod', mod_below, mul-le}
use Rattle.std.proofs.Math.Nat.{mod-eq_of_lt, mod_self, zero-div, zero-mod, div-zero}
use Rattle.std.proofs.Math.IntN.{pos-*ℤ-pos, negsuc-*ℤ-pos, pos-*ℤ-negsuc, *ℤ-negsuc, *ℤ-zero, zero-*ℤ, neg_ℤ-neg_ℤ}
use Rattle.word86.specs.declared.width.Width.{Width}
use Rattle.word86.specs.declared.width.Width.TheVariants.{Byte, Word}
use Rattle.i86_table.specs.declared.instruction.Signedness.TheVariants.{Unsigned, Signed}
use Rattle.i86_table.specs.declared.outcome.Division.{Division}
use Rattle.i86_table.specs.declared.flags.Flags.{Flags}
use Rattle.word86.specs.Access.{values}
use Rattle.i86_table.specs.Arithmetic.{same, has, magnitude, is_negative, with_sign, carry_and_overflow, multiplied, divided}
use Rattle.word86.specs.Signed.{signed, in_range}
use Rattle.word86.specs.DivisionLaw.{IsQuotient}
use Rattle.i86_table.specs.ArithmeticLaw.{ProductLaws, QuotientLaws}
use Rattle.i86_table.proofs.FlagLists.{has_put}

-- ---- a number by its sign and its absolute value

abbrev pub minus : Bool → ℕ → ℤ
minus p m = if p then neg_ℤ (pos m) else pos m

taken : (a size : ℕ) → a < size → pos a -ℤ pos size ≡ neg_ℤ (pos (size - a))
taken a size h = omega (arith, ints)

parts_of : (size a : ℕ) (p : Bool) → nat_le (size / 2) a ≡ p → a < size → (if p then pos a -ℤ pos size else pos a) ≡ minus p (magnitude size a)
parts_of size a true e h = rw (le-ltb a (size / 2) (leb-true (size / 2) a e)) (taken a size h)
parts_of size a false e h = rw (lt-ltb a (size / 2) (leb-false (size / 2) a e)) refl

pub parts : (size a : ℕ) → a < size → signed size a ≡ minus (is_negative size a) (magnitude size a)
parts size a h = parts_of size a (is_negative size a) refl h

-- the sizes are even
pub record IsEven (size : ℕ) : Type 0 where
  pub even : size ≡ 2 * (size / 2)
  pub some : 0 < size / 2

pub even_width : (w : Width) → IsEven (values w)
even_width Byte = record { even = refl; some = lit< tt }
even_width Word = record { even = refl; some = lit< tt }

even_twice : (w : Width) → IsEven (values w * values w)
even_twice Byte = record { even = refl; some = lit< tt }
even_twice Word = record { even = refl; some = lit< tt }

shown_plus : (size m : ℕ) → m < size / 2 → signed size m ≡ pos m
shown_plus size m h = rw (lt-leb (size / 2) m h) refl

back : (size k : ℕ) → suc k ≤ size → pos (size - suc k) -ℤ pos size ≡ negsuc k
back size k h = omega (arith, ints)

shown_minus : (size m : ℕ) → IsEven size → m ≤ size / 2 → signed size ((size - m) % size) ≡ neg_ℤ (pos m)
shown_minus size zero s h =
    let whole : size - 0 ≡ size = omega arith in
    ap (λ (x : ℕ). signed size (x % size)) whole ∙ ap (signed size) (mod_self size) ∙ shown_plus size 0 s.some
shown_minus size (suc k) s h =
    let below : size - suc k < size = omega (arith, s.even, s.some) in
    let high : size / 2 ≤ size - suc k = omega (arith, s.even, h) in
    ap (signed size) (mod-eq_of_lt below) ∙ rw (le-leb (size / 2) (size - suc k) high) (back size k (omega (arith, s.even, h)))

shown : (size m : ℕ) (p : Bool) → IsEven size → m ≤ size / 2 → (p ≡ false → m < size / 2) → signed size (with_sign size p m) ≡ minus p m
shown size m true s h g = shown_minus size m s h
shown size m false s h g = shown_plus size m (g refl)

magnitude_of : (size a : ℕ) (p : Bool) → nat_lt a (size / 2) ≡ p → IsEven size → (if p then a else size - a) ≤ size / 2
magnitude_of size a true e s = omega (arith, ltb-true a (size / 2) e)
magnitude_of size a false e s = omega (arith, ltb-false a (size / 2) e, s.even)

pub magnitude_small : (size a : ℕ) → IsEven size → magnitude size a ≤ size / 2
magnitude_small size a s = magnitude_of size a (nat_lt a (size / 2)) refl s

some_of : (size a : ℕ) (p : Bool) → nat_lt a (size / 2) ≡ p → a < size → 0 < a → 0 < (if p then a else size - a)
some_of size a true e h g = g
some_of size a false e h g = omega (arith, h)

pub magnitude_some : (size a : ℕ) → a < size → 0 < a → 0 < magnitude size a
magnitude_some size a h g = some_of size a (nat_lt a (size / 2)) refl h g

-- ---- products

none_times : (n : ℕ) → pos 0 ≡ neg_ℤ (pos (0 * n))
none_times n = let e : 0 ≡ 0 * n = omega arith in ap (λ (x : ℕ). neg_ℤ (pos x)) e

times_none : (m : ℕ) → pos 0 ≡ neg_ℤ (pos (m * 0))
times_none m = let e : 0 ≡ m * 0 = omega arith in ap (λ (x : ℕ). neg_ℤ (pos x)) e

left_minus : (m n : ℕ) → neg_ℤ (pos m) *ℤ pos n ≡ neg_ℤ (pos (m * n))
left_minus zero n = zero-*ℤ (pos n) ∙ none_times n
left_minus (suc m) n = negsuc-*ℤ-pos m n

right_minus : (m n : ℕ) → pos m *ℤ neg_ℤ (pos n) ≡ neg_ℤ (pos (m * n))
right_minus m zero = *ℤ-zero (pos m) ∙ times_none m
right_minus m (suc n) = pos-*ℤ-negsuc m n

both_minus : (m n : ℕ) → neg_ℤ (pos m) *ℤ neg_ℤ (pos n) ≡ pos (m * n)
both_minus m zero = let e : 0 ≡ m * 0 = omega arith in *ℤ-zero (neg_ℤ (pos m)) ∙ ap pos e
both_minus m (suc n) = *ℤ-negsuc (neg_ℤ (pos m)) n ∙ ap neg_ℤ (left_minus m (suc n)) ∙ neg_ℤ-neg_ℤ (pos (m * suc n))

product_of : (p q : Bool) (m n : ℕ) → minus p m *ℤ minus q n ≡ minus (not (same p q)) (m * n)
product_of true true m n = both_minus m n
product_of true false m n = left_minus m n
product_of false true m n = right_minus m n
product_of false false m n = pos-*ℤ-pos m n

-- what a width cannot hold
outside : (w : Width) (r : Bool) (m : ℕ) → (if r then nat_lt (values w / 2) m else nat_le (values w / 2) m) ≡ not (in_range (values w) (minus r m))
outside Byte true zero = refl
outside Byte true (suc k) = grind arith
outside Byte false m = grind arith
outside Word true zero = refl
outside Word true (suc k) = grind arith
outside Word false m = grind arith

pub product_small : (w : Width) (m n : ℕ) → m ≤ values w / 2 → n ≤ values w / 2 → m * n < values w * values w / 2
product_small Byte m n hm hn = omega (arith, mul-le m n 128 128 hm hn)
product_small Word m n hm hn = omega (arith, mul-le m n 32768 32768 hm hn)

carry_of : (v : Bool) (f : Flags) → has (carry_and_overflow v f) 1 ≡ v
carry_of v f = has_put ((2048, v) ∷ (1, v) ∷ []) 1 f (refl, refl, (lit< tt, refl))

overflow_of : (v : Bool) (f : Flags) → has (carry_and_overflow v f) 2048 ≡ v
overflow_of v f = has_put ((2048, v) ∷ (1, v) ∷ []) 2048 f (lit< tt, refl)

signed_product : (w : Width) (a b : ℕ) → a < values w → b < values w → signed (values w) a *ℤ signed (values w) b ≡ minus (not (same (is_negative (values w) a) (is_negative (values w) b))) (magnitude (values w) a * magnitude (values w) b)
signed_product w a b ha hb =
    let s = values w in
    ap (λ (z : ℤ). z *ℤ signed s b) (parts s a ha) ∙ ap (λ (z : ℤ). minus (is_negative s a) (magnitude s a) *ℤ z) (parts s b hb)
    ∙ product_of (is_negative s a) (is_negative s b) (magnitude s a) (magnitude s b)

imul : (w : Width) (a b : ℕ) (f : Flags) → a < values w → b < values w → signed (values w * values w) (multiplied Signed w a b f).value ≡ signed (values w) a *ℤ signed (values w) b
unfolding multiplied
imul w a b f ha hb =
    let s = values w in
    let m = magnitude s a * magnitude s b in
    let small = product_small w (magnitude s a) (magnitude s b) (magnitude_small s a (even_width w)) (magnitude_small s b (even_width w)) in
    shown (s * s) m (not (same (is_negative s a) (is_negative s b))) (even_twice w) (omega (arith, small)) (λ e. small)
    ∙ sym (signed_product w a b ha hb)

needed : (w : Width) (a b : ℕ) → a < values w → b < values w → (if not (same (is_negative (values w) a) (is_negative (values w) b)) then nat_lt (values w / 2) (magnitude (values w) a * magnitude (values w) b) else nat_le (values w / 2) (magnitude (values w) a * magnitude (values w) b)) ≡ not (in_range (values w) (signed (values w) a *ℤ signed (values w) b))
needed w a b ha hb =
    outside w (not (same (is_negative (values w) a) (is_negative (values w) b))) (magnitude (values w) a * magnitude (values w) b)
    ∙ ap (λ (z : ℤ). not (in_range (values w) z)) (sym (signed_product w a b ha hb))

pub product_tells : ProductLaws
unfolding multiplied
product_tells = record {
  mul = λ w a b f. refl;
  mul_carry = λ w a b f. carry_of (nat_le (values w) (a * b)) f;
  mul_overflow = λ w a b f. overflow_of (nat_le (values w) (a * b)) f;
  imul = imul;
  imul_carry = λ w a b f ha hb. carry_of _ f ∙ needed w a b ha hb;
  imul_overflow = λ w a b f ha hb. overflow_of _ f ∙ needed w a b ha hb;
}

-- ---- quotients

value_or : Division → Option Division → Division
value_or x None = x
value_or x (Some d) = d

-- what the tests of a division say
pub found : (none over : Bool) (x d : Division) → (if none then None else if over then None else Some x) ≡ Some d → (none ≡ false) × (over ≡ false) × (x ≡ d)
unfolding value_or
found true over x d e = absurd (let wrong = e in cc)
found false true x d e = absurd (let wrong = e in cc)
found false false x d e = (refl, refl, ap (value_or x) e)

fault : (none over : Bool) (x : Division) → (if none then None else if over then None else Some x) ≡ None → (none ≡ true) ⊎ (over ≡ true)
fault true over x e = inl refl
fault false true x e = inr refl
fault false false x e = absurd (let wrong = e in cc)

pub quotient_parts : (p q : Bool) (m n : ℕ) → int_div (minus p m) (minus q n) ≡ minus (not (same p q)) (m / n)
quotient_parts true true zero zero = refl
quotient_parts true true zero (suc n) = ap (λ (x : ℕ). neg_ℤ (pos x)) (zero-div (suc n)) ∙ ap pos (sym (zero-div (suc n)))
quotient_parts true true (suc m) zero = ap (λ (x : ℕ). neg_ℤ (pos x)) (div-zero (suc m)) ∙ ap pos (sym (div-zero (suc m)))
quotient_parts true true (suc m) (suc n) = refl
quotient_parts true false zero n = ap pos (zero-div n) ∙ ap (λ (x : ℕ). neg_ℤ (pos x)) (sym (zero-div n))
quotient_parts true false (suc m) n = refl
quotient_parts false true m zero = ap pos (div-zero m) ∙ ap (λ (x : ℕ). neg_ℤ (pos x)) (sym (div-zero m))
quotient_parts false true m (suc n) = refl
quotient_parts false false m n = refl

abs_parts : (p : Bool) (m : ℕ) → unsigned_abs (minus p m) ≡ m
abs_parts true zero = refl
abs_parts true (suc m) = refl
abs_parts false m = refl

pub remainder_parts : (p q : Bool) (m n : ℕ) → int_rem (minus p m) (minus q n) ≡ minus p (m % n)
remainder_parts true q zero n = ap (λ (x : ℕ). pos (0 % x)) (abs_parts q n) ∙ ap pos (zero-mod n) ∙ ap (λ (x : ℕ). neg_ℤ (pos x)) (sym (zero-mod n))
remainder_parts true q (suc m) n = ap (λ (x : ℕ). neg_ℤ (pos (suc m % x))) (abs_parts q n)
remainder_parts false q m n = ap (λ (x : ℕ). pos (m % x)) (abs_parts q n)

sign_again : (p q : Bool) → not (same (not (same p q)) q) ≡ p
sign_again true true = refl
sign_again true false = refl
sign_again false true = refl
sign_again false false = refl

sum_parts : (p : Bool) (m n : ℕ) → minus p m +ℤ minus p n ≡ minus p (m + n)
sum_parts true m n = omega (arith, ints)
sum_parts false m n = refl

sign_parts : (p : Bool) (m r : ℕ) → r ≤ m → (minus p r ≡ pos 0) ⊎ (int_lt (minus p r) (pos 0) ≡ int_lt (minus p m) (pos 0))
sign_parts true m zero h = inl refl
sign_parts true zero (suc r) h = absurd (omega (arith, h))
sign_parts true (suc m) (suc r) h = inr refl
sign_parts false m r h = inr (le-ltb r 0 (omega arith) ∙ sym (le-ltb m 0 (omega arith)))

-- a division by absolute values is one by numbers with sign
is_quotient : (p q : Bool) (m n : ℕ) → 0 < n → IsQuotient (minus p m) (minus q n) (minus (not (same p q)) (m / n)) (minus p (m % n))
is_quotient p q m n h = record {
  sum = ap (λ (z : ℤ). z +ℤ minus p (m % n)) (product_of (not (same p q)) q (m / n) n ∙ ap (λ (s : Bool). minus s (m / n * n)) (sign_again p q))
      ∙ sum_parts p (m / n * n) (m % n) ∙ ap (minus p) (div-add-mod' m n);
  smaller = rw (abs_parts p (m % n), abs_parts q n) (mod_below m n h);
  same_sign = sign_parts p m (m % n) (omega (arith, div-add-mod' m n));
}

limit_kept : (r : Bool) (h q : ℕ) → 0 < h → nat_lt (if r then h else h - 1) q ≡ false → (q ≤ h) × (r ≡ false → q < h)
limit_kept true h q some e = (omega (arith, ltb-false h q e), λ wrong. absurd (true≢false wrong))
limit_kept false h q some e = let le = ltb-false (h - 1) q e in (omega (arith, le, some), λ s. omega (arith, le, some))

limit_passed : (r : Bool) (h q : ℕ) → 0 < h → nat_lt (if r then h else h - 1) q ≡ true → (if r then nat_lt h q else nat_le h q) ≡ true
limit_passed true h q some e = e
limit_passed false h q some e = le-leb h q (omega (arith, ltb-true (h - 1) q e, some))

not_zero : (b : ℕ) → (b == 0) ≡ false → 0 < b
not_zero zero e = absurd (true≢false e)
not_zero (suc b) e = omega arith

idiv : (w : Width) (a b : ℕ) (d : Division) → a < values w * values w → b < values w → divided Signed w a b ≡ Some d → IsQuotient (signed (values w * values w) a) (signed (values w) b) (signed (values w) d.quotient) (signed (values w) d.remainder)
unfolding divided
idiv w a b d ha hb e =
    let s = values w in
    let p = is_negative (s * s) a in
    let q = is_negative s b in
    let m = magnitude (s * s) a in
    let n = magnitude s b in
    let negative = not (same p q) in
    let x : Division = record { quotient = with_sign s negative (m / n); remainder = with_sign s p (m % n) } in
    let tests = found (b == 0) (nat_lt (if negative then s / 2 else s / 2 - 1) (m / n)) x d e in
    let some : 0 < n = magnitude_some s b hb (not_zero b tests.0) in
    let limit = limit_kept negative (s / 2) (m / n) (even_width w).some tests.1 in
    let rest : m % n < s / 2 = omega (arith, mod_below m n some, magnitude_small s b (even_width w)) in
    let quotient = shown s (m / n) negative (even_width w) limit.0 limit.1 in
    let remainder = shown s (m % n) p (even_width w) (omega (arith, rest)) (λ t. rest) in
    subst (λ (y : Division). IsQuotient (signed (s * s) a) (signed s b) (signed s y.quotient) (signed s y.remainder)) tests.2
    (rw (parts (s * s) a ha, parts s b hb, quotient, remainder) (is_quotient p q m n some))

out_of_range : (r : Bool) → true ≡ not r → r ≡ false
out_of_range true e = absurd (true≢false e)
out_of_range false e = refl

idiv_fault : (w : Width) (a b : ℕ) → a < values w * values w → b < values w → divided Signed w a b ≡ None → (b ≡ 0) ⊎ (in_range (values w) (int_div (signed (values w * values w) a) (signed (values w) b)) ≡ false)
unfolding divided
idiv_fault w a b ha hb e =
    let s = values w in
    let p = is_negative (s * s) a in
    let q = is_negative s b in
    let m = magnitude (s * s) a in
    let n = magnitude s b in
    let negative = not (same p q) in
    let x : Division = record { quotient = with_sign s negative (m / n); remainder = with_sign s p (m % n) } in
    cases (fault (b == 0) (nat_lt (if negative then s / 2 else s / 2 - 1) (m / n)) x e)
  where
    cases : ((b == 0) ≡ true) ⊎ (nat_lt (if not (same (is_negative (values w * values w) a) (is_negative (values w) b)) then values w / 2 else values w / 2 - 1) (magnitude (values w * values w) a / magnitude (values w) b) ≡ true) → (b ≡ 0) ⊎ (in_range (values w) (int_div (signed (values w * values w) a) (signed (values w) b)) ≡ false)
    cases (inl t) = inl (eqb-true b 0 t)
    cases (inr t) =
        let s = values w in
        let p = is_negative (s * s) a in
        let q = is_negative s b in
        let m = magnitude (s * s) a in
        let n = magnitude s b in
        let r = not (same p q) in
        let same_quotient : int_div (signed (s * s) a) (signed s b) ≡ minus r (m / n) = ap (λ (z : ℤ). int_div z (signed s b)) (parts (s * s) a ha) ∙ ap (λ (z : ℤ). int_div (minus p m) z) (parts s b hb) ∙ quotient_parts p q m n in
        inr (ap (in_range s) same_quotient ∙ out_of_range (in_range s (minus r (m / n))) (sym (limit_passed r (s / 2) (m / n) (even_width w).some t) ∙ outside w r (m / n)))

div : (w : Width) (a b : ℕ) (d : Division) → divided Unsigned w a b ≡ Some d → (d.quotient * b + d.remainder ≡ a) × (d.remainder < b)
unfolding divided
div w a b d e =
    let x : Division = record { quotient = a / b; remainder = a % b } in
    let tests = found (b == 0) (nat_le (values w) (a / b)) x d e in
    subst (λ (y : Division). (y.quotient * b + y.remainder ≡ a) × (y.remainder < b)) tests.2 (div-add-mod' a b, mod_below a b (not_zero b tests.0))

div_fault : (w : Width) (a b : ℕ) → divided Unsigned w a b ≡ None → (b ≡ 0) ⊎ (values w ≤ a / b)
unfolding divided
div_fault w a b e = cases (fault (b == 0) (nat_le (values w) (a / b)) (record { quotient = a / b; remainder = a % b }) e) where
  cases : ((b == 0) ≡ true) ⊎ (nat_le (values w) (a / b) ≡ true) → (b ≡ 0) ⊎ (values w ≤ a / b)
  cases (inl t) = inl (eqb-true b 0 t)
  cases (inr t) = inr (leb-true (values w) (a / b) t)

pub quotient_tells : QuotientLaws
quotient_tells = record { div = div; div_fault = div_fault; idiv = idiv; idiv_fault = idiv_fault }
