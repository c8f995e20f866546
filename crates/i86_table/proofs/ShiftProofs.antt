-- A shift multiplies or divides by a power of two, and CF is the bit that went out last.
use Rattle.std.proofs.Common.{◌≡◌, ℕ, zero, suc, ◌+◌, ◌-◌, ◌*◌, ◌/◌, ◌%◌, ◌^◌, ◌<◌, ◌==◌, Bool, true, false, [], ◌∷◌, ap, ◌∙◌, refl, sym, nat_le, nat_eq, lit<, count_ones, arith, if◌then◌else◌, mul_assoc}
use Rattle.std.specs.Prelude.{ℤ, pos, negsuc, ◌-ℤ◌}
use Rattle.std.specs.Int.Signed.{shr_z}
use Rattle.std.proofs.lemmas.Bool.{true≢false, ne_eqb, le-leb, lt-leb}
use Rattle.std.proofs.lemmas.Int.{ints}
use Rattle.std.proofs.lemmas.Nat.{mul-mod_first, shr-shr}
use Rattle.std.proofs.Math.Nat.{pow-succ', add-mul, mul_left_comm}
use Rattle.word86.specs.declared.width.Width.{Width}
use Rattle.word86.specs.declared.width.Width.TheVariants.{Byte, Word}
use Rattle.i86_table.specs.declared.instruction.ShiftOperation.{ShiftOperation}
use Rattle.i86_table.specs.declared.instruction.ShiftOperation.TheVariants.{Rol, Ror, Shl, Shr, Sar}
use Rattle.i86_table.specs.declared.flags.Flags.{Flags}
use Rattle.word86.specs.Access.{values}
use Rattle.i86_table.specs.Arithmetic.{half_of, sign, has, is_carry, carry, overflow, with_result, moved, moved_once, with_shift_result, shift_overflow, shifted}
use Rattle.word86.specs.Signed.{signed}
use Rattle.i86_table.specs.ArithmeticLaw.{ShiftLaws}
use Rattle.i86_table.proofs.FlagLists.{has_put}

-- ---- the value and CF of what is shifted

pub value_is : (o : ShiftOperation) (w : Width) (a n : ℕ) (f : Flags) → (shifted o w a n f).value ≡ (moved o w n (a, is_carry f)).0
unfolding shifted
value_is o w a n f = refl

result_carry : (o : ShiftOperation) (w : Width) (v : ℕ) (c : Bool) (f : Flags) → has (with_shift_result o w v (carry c f)) 1 ≡ c
unfolding with_result
result_carry Rol w v c f = has_put ((1, c) ∷ []) 1 f (lit< tt, refl)
result_carry Ror w v c f = has_put ((1, c) ∷ []) 1 f (lit< tt, refl)
result_carry Shl w v c f = has_put ((4, count_ones (v % 256) % 2 == 0) ∷ (128, sign w v) ∷ (64, v == 0) ∷ (1, c) ∷ []) 1 f (refl, refl, (refl, refl, (refl, refl, (lit< tt, refl))))
result_carry Shr w v c f = has_put ((4, count_ones (v % 256) % 2 == 0) ∷ (128, sign w v) ∷ (64, v == 0) ∷ (1, c) ∷ []) 1 f (refl, refl, (refl, refl, (refl, refl, (lit< tt, refl))))
result_carry Sar w v c f = has_put ((4, count_ones (v % 256) % 2 == 0) ∷ (128, sign w v) ∷ (64, v == 0) ∷ (1, c) ∷ []) 1 f (refl, refl, (refl, refl, (refl, refl, (lit< tt, refl))))

either_carry : (once i c : Bool) (f : Flags) → has f 1 ≡ c → has (if once then overflow i f else f) 1 ≡ c
either_carry true i c f h = has_put ((2048, i) ∷ []) 1 f (refl, refl, tt) ∙ h
either_carry false i c f h = h

some_carry : (none c : Bool) (f g : Flags) → none ≡ false → has g 1 ≡ c → has (if none then f else g) 1 ≡ c
some_carry true c f g e h = absurd (true≢false e)
some_carry false c f g e h = h

pub carry_is : (o : ShiftOperation) (w : Width) (a n : ℕ) (f : Flags) → has (shifted o w a (suc n) f).flags 1 ≡ (moved o w (suc n) (a, is_carry f)).1
unfolding shifted
carry_is o w a n f =
    let x = moved o w (suc n) (a, is_carry f) in
    let g = with_shift_result o w x.0 (carry x.1 f) in
    some_carry (suc n == 0) x.1 f (if suc n == 1 then overflow (shift_overflow o w a x.0 x.1) g else g) (ne_eqb (suc n) 0 (λ e. absurd (omega (arith, e))))
    (either_carry (suc n == 1) (shift_overflow o w a x.0 x.1) x.1 g (result_carry o w x.0 x.1 f))

-- ---- to the left

once_below : (w : Width) (a : ℕ) → a * 2 % values w < values w
once_below Byte a = omega arith
once_below Word a = omega arith

doubled : (a n : ℕ) → a * 2 * 2 ^ n ≡ a * 2 ^ suc n
doubled a n = mul_assoc a 2 (2 ^ n) ∙ ap (λ (x : ℕ). a * x) (sym (pow-succ' 2 n))

none : (w : Width) (a : ℕ) → a < values w → a ≡ a * 2 ^ 0 % values w
none Byte a h = omega arith
none Word a h = omega arith

shl_value : (w : Width) (n a : ℕ) (c : Bool) → a < values w → (moved Shl w n (a, c)).0 ≡ a * 2 ^ n % values w
unfolding moved
shl_value w zero a c h = none w a h
shl_value w (suc n) a c h =
    shl_value w n (a * 2 % values w) (a * 2 / values w == 1) (once_below w a)
    ∙ mul-mod_first (a * 2) (2 ^ n) (values w) ∙ ap (λ (x : ℕ). x % values w) (doubled a n)

spread : (s q r a m : ℕ) → a ≡ s * q + r → a * (2 * m) ≡ s * (2 * (q * m)) + r * (2 * m)
spread s q r a m e = ap (λ (x : ℕ). x * (2 * m)) e ∙ add-mul (s * q) r (2 * m) ∙ ap (λ (x : ℕ). x + r * (2 * m)) (mul_assoc s q (2 * m) ∙ ap (λ (x : ℕ). s * x) (mul_left_comm q 2 m))

-- a bit that went out earlier leaves the later ones
parted : (w : Width) (a m : ℕ) → (a % values w * (2 * m)) / values w % 2 ≡ a * (2 * m) / values w % 2
parted Byte a m =
    let e : a * (2 * m) ≡ 256 * (2 * (a / 256 * m)) + a % 256 * (2 * m) = spread 256 (a / 256) (a % 256) a m (omega arith) in
    omega (arith, e)
parted Word a m =
    let e : a * (2 * m) ≡ 65536 * (2 * (a / 65536 * m)) + a % 65536 * (2 * m) = spread 65536 (a / 65536) (a % 65536) a m (omega arith) in
    omega (arith, e)

out_first : (w : Width) (a : ℕ) → a < values w → (a * 2 / values w == 1) ≡ (a * 2 ^ 1 / values w % 2 == 1)
out_first Byte a h = ap (λ (x : ℕ). nat_eq x 1) (omega arith)
out_first Word a h = ap (λ (x : ℕ). nat_eq x 1) (omega arith)

shl_out : (w : Width) (n a : ℕ) (c : Bool) → a < values w → (moved Shl w (suc n) (a, c)).1 ≡ (a * 2 ^ suc n / values w % 2 == 1)
unfolding moved
shl_out w zero a c h = out_first w a h
shl_out w (suc n) a c h =
    shl_out w n (a * 2 % values w) (a * 2 / values w == 1) (once_below w a)
    ∙ ap (λ (x : ℕ). nat_eq x 1) (ap (λ (x : ℕ). a * 2 % values w * x / values w % 2) (pow-succ' 2 n) ∙ parted w (a * 2) (2 ^ n) ∙ ap (λ (x : ℕ). a * 2 * x / values w % 2) (sym (pow-succ' 2 n)) ∙ ap (λ (x : ℕ). x / values w % 2) (doubled a (suc n)))

-- ---- to the right

halved : (a n : ℕ) → a / 2 / 2 ^ n ≡ a / 2 ^ suc n
halved a n = shr-shr a 1 n ∙ ap (λ (k : ℕ). a / 2 ^ k) (omega arith)

shr_value : (w : Width) (n a : ℕ) (c : Bool) → (moved Shr w n (a, c)).0 ≡ a / 2 ^ n
unfolding moved
shr_value w zero a c = omega arith
shr_value w (suc n) a c = shr_value w n (a / 2) (a % 2 == 1) ∙ halved a n

shr_out : (w : Width) (n a : ℕ) (c : Bool) → (moved Shr w (suc n) (a, c)).1 ≡ (a / 2 ^ n % 2 == 1)
unfolding moved
shr_out w zero a c = ap (λ (x : ℕ). nat_eq x 1) (omega arith)
shr_out w (suc n) a c = shr_out w n (a / 2) (a % 2 == 1) ∙ ap (λ (x : ℕ). nat_eq (x % 2) 1) (halved a n)

-- ---- to the right, with the sign

shr_z_twice : (z : ℤ) (n : ℕ) → shr_z (shr_z z 2) (2 ^ n) ≡ shr_z z (2 ^ suc n)
shr_z_twice (pos a) n = ap pos (halved a n)
shr_z_twice (negsuc a) n = ap negsuc (halved a n)

sar_below : (w : Width) (a : ℕ) → a < values w → (moved_once Sar w a).0 < values w
sar_below Byte a h = grind arith
sar_below Word a h = grind arith

sar_of : (w : Width) (p : Bool) (a : ℕ) → sign w a ≡ p → a < values w → signed (values w) (a / 2 + (if p then half_of w else 0)) ≡ shr_z (if p then pos a -ℤ pos (values w) else pos a) 2
sar_of Byte true a e h =
    let below : pos a -ℤ pos 256 ≡ negsuc (255 - a) = omega (arith, ints) in
    let high : nat_le 128 (a / 2 + 128) ≡ true = le-leb 128 (a / 2 + 128) (omega arith) in
    let shown : pos (a / 2 + 128) -ℤ pos 256 ≡ negsuc ((255 - a) / 2) = grind (arith, ints) in
    rw (high, below) shown
sar_of Byte false a e h =
    let low : nat_le 128 (a / 2 + 0) ≡ false = lt-leb 128 (a / 2 + 0) (grind arith) in
    rw low (ap pos (omega arith))
sar_of Word true a e h =
    let below : pos a -ℤ pos 65536 ≡ negsuc (65535 - a) = omega (arith, ints) in
    let high : nat_le 32768 (a / 2 + 32768) ≡ true = le-leb 32768 (a / 2 + 32768) (omega arith) in
    let shown : pos (a / 2 + 32768) -ℤ pos 65536 ≡ negsuc ((65535 - a) / 2) = grind (arith, ints) in
    rw (high, below) shown
sar_of Word false a e h =
    let low : nat_le 32768 (a / 2 + 0) ≡ false = lt-leb 32768 (a / 2 + 0) (grind arith) in
    rw low (ap pos (omega arith))

sar_once : (w : Width) (a : ℕ) → a < values w → signed (values w) (moved_once Sar w a).0 ≡ shr_z (signed (values w) a) 2
sar_once Byte a h = sar_of Byte (sign Byte a) a refl h
sar_once Word a h = sar_of Word (sign Word a) a refl h

shr_z_none : (z : ℤ) → z ≡ shr_z z (2 ^ 0)
shr_z_none (pos a) = ap pos (omega arith)
shr_z_none (negsuc a) = ap negsuc (omega arith)

sar_value : (w : Width) (n a : ℕ) (c : Bool) → a < values w → signed (values w) (moved Sar w n (a, c)).0 ≡ shr_z (signed (values w) a) (2 ^ n)
unfolding moved
sar_value w zero a c h = shr_z_none (signed (values w) a)
sar_value w (suc n) a c h =
    let x = moved_once Sar w a in
    sar_value w n x.0 x.1 (sar_below w a h) ∙ ap (λ (z : ℤ). shr_z z (2 ^ n)) (sar_once w a h) ∙ shr_z_twice (signed (values w) a) n

sar_out : (w : Width) (n a : ℕ) (c d : Bool) → (moved Sar w (suc n) (a, c)).1 ≡ ((moved Sar w n (a, d)).0 % 2 == 1)
unfolding moved
sar_out w zero a c d = refl
sar_out w (suc n) a c d = let x = moved_once Sar w a in sar_out w n x.0 x.1 x.1

-- ---- the laws

less_one : (n : ℕ) → n ≡ suc n - 1
less_one n = omega arith

shl_carry : (w : Width) (n a : ℕ) (f : Flags) → a < values w → 0 < n → has (shifted Shl w a n f).flags 1 ≡ (a * 2 ^ n / values w % 2 == 1)
shl_carry w zero a f h some = absurd (omega (arith, some))
shl_carry w (suc n) a f h some = carry_is Shl w a n f ∙ shl_out w n a (is_carry f) h

shr_carry : (w : Width) (n a : ℕ) (f : Flags) → 0 < n → has (shifted Shr w a n f).flags 1 ≡ (a / 2 ^ (n - 1) % 2 == 1)
shr_carry w zero a f some = absurd (omega (arith, some))
shr_carry w (suc n) a f some = carry_is Shr w a n f ∙ shr_out w n a (is_carry f) ∙ ap (λ (k : ℕ). nat_eq (a / 2 ^ k % 2) 1) (less_one n)

sar_carry : (w : Width) (n a : ℕ) (f : Flags) → 0 < n → has (shifted Sar w a n f).flags 1 ≡ ((shifted Sar w a (n - 1) f).value % 2 == 1)
sar_carry w zero a f some = absurd (omega (arith, some))
sar_carry w (suc n) a f some =
    carry_is Sar w a n f ∙ sar_out w n a (is_carry f) (is_carry f)
    ∙ ap (λ (x : ℕ). nat_eq (x % 2) 1) (sym (value_is Sar w a n f)) ∙ ap (λ (k : ℕ). nat_eq ((shifted Sar w a k f).value % 2) 1) (less_one n)

pub shift_tells : ShiftLaws
shift_tells = record {
  shl = λ w a n f h. value_is Shl w a n f ∙ shl_value w n a (is_carry f) h;
  shl_carry = λ w a n f h some. shl_carry w n a f h some;
  shr = λ w a n f. value_is Shr w a n f ∙ shr_value w n a (is_carry f);
  shr_carry = λ w a n f some. shr_carry w n a f some;
  sar = λ w a n f h. ap (signed (values w)) (value_is Sar w a n f) ∙ sar_value w n a (is_carry f) h;
  sar_carry = λ w a n f some. sar_carry w n a f some;
}
