-- A rotation by one place after the other is the rotation of word86.
use Rattle.std.proofs.Common.{◌≡◌, ℕ, zero, suc, ◌+◌, ◌-◌, ◌*◌, ◌/◌, ◌%◌, ◌^◌, ◌<◌, ◌≤◌, ◌==◌, Bool, ap, ◌∙◌, refl, sym, nat_eq, arith, mul_assoc, ◌⊎◌, inl, inr}
use Rattle.std.proofs.lemmas.Nat.{pow-add, div-mul-add, mod-mul-add, mul-add-lt, div-add-mod', div_below, mod_below, pow_pos, row_fits}
use Rattle.std.proofs.lemmas.Bool.{cases_lt}
use Rattle.std.proofs.Math.Nat.{pow-succ', mod-eq_of_lt, add-mul, mul_comm, mul_left_comm}
use Rattle.word86.specs.Arithmetic.{bits, rotated}
use Rattle.word86.specs.declared.width.Width.{Width}
use Rattle.word86.specs.declared.width.Width.TheVariants.{Byte, Word}
use Rattle.i86_table.specs.declared.instruction.ShiftOperation.TheVariants.{Rol, Ror}
use Rattle.i86_table.specs.declared.flags.Flags.{Flags}
use Rattle.word86.specs.Access.{values}
use Rattle.i86_table.specs.Arithmetic.{half_of, sign, has, is_carry, moved, moved_once, shifted}
use Rattle.i86_table.specs.ArithmeticLaw.{RotationLaws}
use Rattle.i86_table.proofs.ShiftProofs.{value_is, carry_is}

-- a number below s, turned by the power of two p
abbrev turn : (s a p : ℕ) → ℕ
turn s a p = (a % s * p % s + a % s * p / s) % s

turned : (s p q hi lo : ℕ) → p * q ≡ s → lo < q → hi < p → turn s (hi * q + lo) p ≡ lo * p + hi
turned s p q hi lo e hl hh =
    let fits : hi * q + lo < s = omega (arith, mul-add-lt hi q lo p hh hl, mul_comm q p, e) in
    let room : lo * p + p ≤ s = omega (arith, row_fits lo p q p hl (omega arith), mul_comm q p, e) in
    let low : lo * p < s = omega (arith, room, hh) in
    let result : lo * p + hi < s = omega (arith, room, hh) in
    let parts : (hi * q + lo) * p ≡ hi * s + lo * p = add-mul (hi * q) lo p ∙ ap (λ (x : ℕ). x + lo * p) (mul_assoc hi q p ∙ ap (λ (x : ℕ). hi * x) (mul_comm q p ∙ e)) in
    ap (λ (x : ℕ). (x * p % s + x * p / s) % s) (mod-eq_of_lt fits)
    ∙ ap (λ (x : ℕ). (x % s + x / s) % s) parts
    ∙ ap (λ (x : ℕ). (x + (hi * s + lo * p) / s) % s) (mod-mul-add hi s (lo * p) low)
    ∙ ap (λ (x : ℕ). (lo * p + x) % s) (div-mul-add hi s (lo * p) low)
    ∙ mod-eq_of_lt result

-- the two halves of a step
step : (s p q b h m : ℕ) → p * (2 * q) ≡ s → b < 2 → h < p → m < q → turn s (h * (2 * q) + (2 * m + b)) p ≡ turn s ((b * p + h) * q + m) (2 * p)
step s p q b h m e hb hh hm =
    let wide : 2 * p * q ≡ s = ap (λ (x : ℕ). x * q) (mul_comm 2 p) ∙ mul_assoc p 2 q ∙ e in
    let top : b * p + h < 2 * p = omega (arith, mul-add-lt b p h 2 hb hh, mul_comm p 2) in
    let same : (2 * m + b) * p + h ≡ m * (2 * p) + (b * p + h) = omega (arith, add-mul (2 * m) b p, mul_assoc 2 m p, mul_left_comm 2 m p) in
    turned s p (2 * q) h (2 * m + b) e (omega (arith, hb, hm)) hh ∙ same ∙ sym (turned s (2 * p) q (b * p + h) m wide hm top)

left : (s p q a : ℕ) → p * (2 * q) ≡ s → 0 < p → 0 < q → a < s → turn s (a * 2 % s + a * 2 / s) p ≡ turn s a (2 * p)
left s p q a e hp hq ha =
    let t = a / q in
    let b = t / p in
    let h = t % p in
    let m = a % q in
    let wide : 2 * p * q ≡ s = ap (λ (x : ℕ). x * q) (mul_comm 2 p) ∙ mul_assoc p 2 q ∙ e in
    let ht : t < 2 * p = div_below a q (2 * p) hq (omega (arith, ha, wide)) in
    let hb : b < 2 = div_below t p 2 hp ht in
    let hh : h < p = mod_below t p hp in
    let hm : m < q = mod_below a q hq in
    let whole : a ≡ (b * p + h) * q + m = sym (div-add-mod' a q) ∙ ap (λ (x : ℕ). x * q + m) (sym (div-add-mod' t p)) in
    let low : h * (2 * q) + 2 * m < s = omega (arith, mul-add-lt h (2 * q) (2 * m) p hh (omega (arith, hm)), mul_comm (2 * q) p, e) in
    let parts : a * 2 ≡ b * s + (h * (2 * q) + 2 * m) = omega (arith, whole, add-mul (b * p) h q, mul_assoc b p q, ap (λ (x : ℕ). b * x) e, mul_left_comm h 2 q, mul_left_comm p 2 q, mul_left_comm b 2 (p * q), ap (λ (x : ℕ). b * x) (mul_left_comm p 2 q)) in
    let out : a * 2 / s ≡ b = ap (λ (x : ℕ). x / s) parts ∙ div-mul-add b s _ low in
    let rest : a * 2 % s ≡ h * (2 * q) + 2 * m = ap (λ (x : ℕ). x % s) parts ∙ mod-mul-add b s _ low in
    let once : a * 2 % s + a * 2 / s ≡ h * (2 * q) + (2 * m + b) = omega (arith, out, rest) in
    ap (λ (x : ℕ). turn s x p) once ∙ step s p q b h m e hb hh hm ∙ ap (λ (x : ℕ). turn s x (2 * p)) (sym whole)

right : (s p q a : ℕ) → p * (2 * q) ≡ s → 0 < p → 0 < q → a < s → turn s (a / 2 + a % 2 * (p * q)) (2 * p) ≡ turn s a p
right s p q a e hp hq ha =
    let h = a / (2 * q) in
    let r = a % (2 * q) in
    let m = r / 2 in
    let b = r % 2 in
    let hh : h < p = div_below a (2 * q) p (omega (arith, hq)) (omega (arith, ha, e)) in
    let hr : r < 2 * q = mod_below a (2 * q) (omega (arith, hq)) in
    let hm : m < q = omega (arith, hr) in
    let hb : b < 2 = omega arith in
    let whole : a ≡ h * (2 * q) + (2 * m + b) = omega (arith, div-add-mod' a (2 * q)) in
    let even : h * (2 * q) ≡ 2 * (h * q) = mul_left_comm h 2 q in
    let half : a / 2 ≡ h * q + m = omega (arith, whole, even, hb) in
    let bit : a % 2 ≡ b = omega (arith, whole, even, hb) in
    let once : a / 2 + a % 2 * (p * q) ≡ (b * p + h) * q + m = omega (arith, half, ap (λ (x : ℕ). x * (p * q)) bit, add-mul (b * p) h q, mul_assoc b p q) in
    ap (λ (x : ℕ). turn s x (2 * p)) once ∙ sym (step s p q b h m e hb hh hm) ∙ ap (λ (x : ℕ). turn s x p) (sym whole)

-- ---- by widths

turn_is : (w : Width) (a k : ℕ) → turn (values w) a (2 ^ k) ≡ rotated w a k
turn_is Byte a k = refl
turn_is Word a k = refl

-- not at all, and once round
none : (w : Width) (a : ℕ) → a < values w → a ≡ turn (values w) a (2 ^ 0)
none Byte a h = omega arith
none Word a h = omega arith

round : (w : Width) (a : ℕ) → a < values w → turn (values w) a (2 ^ bits w) ≡ a
round Byte a h = omega arith
round Word a h = omega arith

powers : (k n : ℕ) → k < n → 2 ^ k * (2 * 2 ^ (n - (k + 1))) ≡ 2 ^ n
powers k n h =
    let e : k + suc (n - (k + 1)) ≡ n = omega (arith, h) in
    ap (λ (x : ℕ). 2 ^ k * x) (sym (pow-succ' 2 (n - (k + 1)))) ∙ sym (pow-add 2 k (suc (n - (k + 1)))) ∙ ap (λ (x : ℕ). 2 ^ x) e

size_is : (w : Width) → 2 ^ bits w ≡ values w
size_is Byte = refl
size_is Word = refl

half_is : (w : Width) (k : ℕ) → k < bits w → half_of w ≡ 2 ^ k * 2 ^ (bits w - (k + 1))
half_is Byte k h = omega (arith, powers k 8 h, mul_left_comm (2 ^ k) 2 (2 ^ (8 - (k + 1))))
half_is Word k h = omega (arith, powers k 16 h, mul_left_comm (2 ^ k) 2 (2 ^ (16 - (k + 1))))

left_once : (w : Width) (a k : ℕ) → k < bits w → a < values w → turn (values w) (moved_once Rol w a).0 (2 ^ k) ≡ turn (values w) a (2 ^ suc k)
left_once w a k h ha =
    left (values w) (2 ^ k) (2 ^ (bits w - (k + 1))) a (powers k (bits w) h ∙ size_is w) (pow_pos k) (pow_pos (bits w - (k + 1))) ha
    ∙ ap (turn (values w) a) (sym (pow-succ' 2 k))

right_once : (w : Width) (a k : ℕ) → k < bits w → a < values w → turn (values w) (moved_once Ror w a).0 (2 ^ suc k) ≡ turn (values w) a (2 ^ k)
right_once w a k h ha =
    let s = values w in
    let q = 2 ^ (bits w - (k + 1)) in
    ap (λ (x : ℕ). turn s (a / 2 + a % 2 * x) (2 ^ suc k)) (half_is w k h)
    ∙ ap (turn s (a / 2 + a % 2 * (2 ^ k * q))) (pow-succ' 2 k)
    ∙ right s (2 ^ k) q a (powers k (bits w) h ∙ size_is w) (pow_pos k) (pow_pos (bits w - (k + 1))) ha

rol_below : (w : Width) (a : ℕ) → a < values w → (moved_once Rol w a).0 < values w
rol_below Byte a h = omega arith
rol_below Word a h = omega arith

ror_below : (w : Width) (a : ℕ) → a < values w → (moved_once Ror w a).0 < values w
ror_below Byte a h = omega arith
ror_below Word a h = omega arith

-- the count after one more
next : (w : Width) (n : ℕ) → ((suc (n % bits w) ≡ bits w) × (suc n % bits w ≡ 0)) ⊎ ((suc (n % bits w) < bits w) × (suc n % bits w ≡ suc (n % bits w)))
next Byte n = cases (cases_lt (suc (n % 8)) 8) where
  cases : (suc (n % 8) < 8) ⊎ (8 ≤ suc (n % 8)) → ((suc (n % 8) ≡ 8) × (suc n % 8 ≡ 0)) ⊎ ((suc (n % 8) < 8) × (suc n % 8 ≡ suc (n % 8)))
  cases (inl e) = inr (e, omega (arith, e))
  cases (inr e) = inl (omega (arith, e), omega (arith, e))
next Word n = cases (cases_lt (suc (n % 16)) 16) where
  cases : (suc (n % 16) < 16) ⊎ (16 ≤ suc (n % 16)) → ((suc (n % 16) ≡ 16) × (suc n % 16 ≡ 0)) ⊎ ((suc (n % 16) < 16) × (suc n % 16 ≡ suc (n % 16)))
  cases (inl e) = inr (e, omega (arith, e))
  cases (inr e) = inl (omega (arith, e), omega (arith, e))

count_below : (w : Width) (n : ℕ) → n % bits w < bits w
count_below Byte n = omega arith
count_below Word n = omega arith

rol_next : (w : Width) (a n : ℕ) → a < values w → ((suc (n % bits w) ≡ bits w) × (suc n % bits w ≡ 0)) ⊎ ((suc (n % bits w) < bits w) × (suc n % bits w ≡ suc (n % bits w))) → turn (values w) a (2 ^ suc (n % bits w)) ≡ turn (values w) a (2 ^ (suc n % bits w))
rol_next w a n h (inl e) = ap (λ (k : ℕ). turn (values w) a (2 ^ k)) e.0 ∙ round w a h ∙ none w a h ∙ ap (λ (k : ℕ). turn (values w) a (2 ^ k)) (sym e.1)
rol_next w a n h (inr e) = ap (λ (k : ℕ). turn (values w) a (2 ^ k)) (sym e.1)

start : (w : Width) → 0 % bits w ≡ 0
start Byte = refl
start Word = refl

rol_value : (w : Width) (n a : ℕ) (c : Bool) → a < values w → (moved Rol w n (a, c)).0 ≡ turn (values w) a (2 ^ (n % bits w))
unfolding moved
rol_value w zero a c h = none w a h ∙ ap (λ (k : ℕ). turn (values w) a (2 ^ k)) (sym (start w))
rol_value w (suc n) a c h =
    let x = moved_once Rol w a in
    rol_value w n x.0 x.1 (rol_below w a h) ∙ left_once w a (n % bits w) (count_below w n) h ∙ rol_next w a n h (next w n)

ror_next : (w : Width) (a n i : ℕ) → a < values w → bits w - n % bits w ≡ suc i → ((suc (n % bits w) ≡ bits w) × (suc n % bits w ≡ 0)) ⊎ ((suc (n % bits w) < bits w) × (suc n % bits w ≡ suc (n % bits w))) → turn (values w) a (2 ^ i) ≡ turn (values w) a (2 ^ (bits w - suc n % bits w))
ror_next w a n i h at (inl e) =
    let first : i ≡ 0 = omega (arith, at, e.0) in
    let whole : bits w - suc n % bits w ≡ bits w = omega (arith, e.1) in
    ap (λ (k : ℕ). turn (values w) a (2 ^ k)) first ∙ sym (none w a h) ∙ sym (round w a h) ∙ ap (λ (k : ℕ). turn (values w) a (2 ^ k)) (sym whole)
ror_next w a n i h at (inr e) =
    let same : i ≡ bits w - suc n % bits w = omega (arith, at, e.0, e.1) in
    ap (λ (k : ℕ). turn (values w) a (2 ^ k)) same

ror_value : (w : Width) (n a : ℕ) (c : Bool) → a < values w → (moved Ror w n (a, c)).0 ≡ turn (values w) a (2 ^ (bits w - n % bits w))
unfolding moved
ror_value w zero a c h =
    let e : bits w - 0 % bits w ≡ bits w = omega (arith, start w) in
    sym (round w a h) ∙ ap (λ (k : ℕ). turn (values w) a (2 ^ k)) (sym e)
ror_value w (suc n) a c h =
    let x = moved_once Ror w a in
    let i = bits w - n % bits w - 1 in
    let at : bits w - n % bits w ≡ suc i = omega (arith, count_below w n) in
    ror_value w n x.0 x.1 (ror_below w a h) ∙ ap (λ (k : ℕ). turn (values w) x.0 (2 ^ k)) at ∙ right_once w a i (omega (arith, count_below w n)) h ∙ ror_next w a n i h at (next w n)

-- ---- the bit that comes in

rol_bit : (w : Width) (a : ℕ) → a < values w → (a * 2 / values w == 1) ≡ ((a * 2 % values w + a * 2 / values w) % 2 == 1)
rol_bit Byte a h = ap (λ (x : ℕ). nat_eq x 1) (omega arith)
rol_bit Word a h = ap (λ (x : ℕ). nat_eq x 1) (omega arith)

ror_bit : (w : Width) (a : ℕ) → a < values w → (a % 2 == 1) ≡ sign w (a / 2 + a % 2 * half_of w)
ror_bit Byte a h = grind arith
ror_bit Word a h = grind arith

rol_out : (w : Width) (n a : ℕ) (c : Bool) → a < values w → (moved Rol w (suc n) (a, c)).1 ≡ ((moved Rol w (suc n) (a, c)).0 % 2 == 1)
unfolding moved
rol_out w zero a c h = rol_bit w a h
rol_out w (suc n) a c h = let x = moved_once Rol w a in rol_out w n x.0 x.1 (rol_below w a h)

ror_out : (w : Width) (n a : ℕ) (c : Bool) → a < values w → (moved Ror w (suc n) (a, c)).1 ≡ sign w (moved Ror w (suc n) (a, c)).0
unfolding moved
ror_out w zero a c h = ror_bit w a h
ror_out w (suc n) a c h = let x = moved_once Ror w a in ror_out w n x.0 x.1 (ror_below w a h)

rol_carry : (w : Width) (n a : ℕ) (f : Flags) → a < values w → 0 < n → has (shifted Rol w a n f).flags 1 ≡ ((shifted Rol w a n f).value % 2 == 1)
rol_carry w zero a f h some = absurd (omega (arith, some))
rol_carry w (suc n) a f h some = carry_is Rol w a n f ∙ rol_out w n a (is_carry f) h ∙ ap (λ (x : ℕ). nat_eq (x % 2) 1) (sym (value_is Rol w a (suc n) f))

ror_carry : (w : Width) (n a : ℕ) (f : Flags) → a < values w → 0 < n → has (shifted Ror w a n f).flags 1 ≡ sign w (shifted Ror w a n f).value
ror_carry w zero a f h some = absurd (omega (arith, some))
ror_carry w (suc n) a f h some = carry_is Ror w a n f ∙ ror_out w n a (is_carry f) h ∙ ap (sign w) (sym (value_is Ror w a (suc n) f))

pub rotation_tells : RotationLaws
rotation_tells = record {
  rol = λ w a n f h. value_is Rol w a n f ∙ rol_value w n a (is_carry f) h ∙ turn_is w a (n % bits w);
  rol_carry = λ w a n f h some. rol_carry w n a f h some;
  ror = λ w a n f h. value_is Ror w a n f ∙ ror_value w n a (is_carry f) h ∙ turn_is w a (bits w - n % bits w);
  ror_carry = λ w a n f h some. ror_carry w n a f h some;
}
