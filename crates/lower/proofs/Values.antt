-- Values are below 65,536.
use Rattle.std.proofs.Common.{◌≡◌, ℕ, zero, suc, ◌+◌, ◌-◌, ◌*◌, ◌/◌, ◌%◌, ◌^◌, ◌<◌, ◌≤◌, Bool, true, false, not, nat_eq, nat_lt, nat_le, Option, Some, None, refl, sym, subst, arith, if◌then◌else◌}
use Rattle.std.specs.Prelude.{ℤ, pos, negsuc, ◌-ℤ◌, neg_ℤ, int_div, int_rem, unsigned_abs}
use Rattle.std.proofs.lemmas.Int.{ints}
use Rattle.std.proofs.lemmas.Bool.{leb-true, leb-false}
use Rattle.std.proofs.lemmas.Nat.{and_le_l, or_of_16, xor_of_16}
use Rattle.std.proofs.Math.Nat.{div-le_self, mod-le}
use Rattle.word86.specs.declared.width.Width.{Width}
use Rattle.word86.specs.declared.width.Width.TheVariants as widths
use Rattle.word86.specs.declared.operation.UnaryOperation.{UnaryOperation}
use Rattle.word86.specs.declared.operation.UnaryOperation.TheVariants as unary
use Rattle.word86.specs.declared.operation.BinaryOperation.{BinaryOperation}
use Rattle.word86.specs.declared.operation.BinaryOperation.TheVariants as binary
use Rattle.word86.specs.Access.{values}
use Rattle.word86.specs.Arithmetic.{low}
use Rattle.word86.specs.Operation.{truth, unary_value, binary_value, quotient, remainder}
use Rattle.word86.specs.Signed.{signed, signed_word, has_quotient, signed_less}

pub low_small : (w : Width) (v : ℕ) → low w v < 65536
low_small widths.Byte v = omega arith
low_small widths.Word v = omega arith

pub values_small : (w : Width) (v : ℕ) → v < values w → v < 65536
values_small widths.Byte v h = omega (arith, h)
values_small widths.Word v h = h

-- a value of two bytes is its own low bits
pub low_word : (v : ℕ) → v < 65536 → low widths.Word v ≡ v
low_word v h = omega (arith, h)

truth_small : (b : Bool) → truth b < 65536
truth_small true = omega arith
truth_small false = omega arith

pub unary_small : (o : UnaryOperation) (w : Width) (v : ℕ) → v < 65536 → unary_value o w v < 65536
unary_small unary.Plus w v h = h
unary_small unary.Minus w v h = low_small w (65536 - v)
unary_small unary.Not w v h = low_small w (65535 - v)
unary_small unary.Low w v h = omega (arith, h)
unary_small unary.High w v h = omega (arith, h)
unary_small unary.Double w v h = h

abbrev Small : Option ℕ → Type 0
Small (Some v) = v < 65536
Small None = Unit {0}

quotient_small : (a b : ℕ) → a < 65536 → Small (quotient a b)
quotient_small a zero h = tt
quotient_small a (suc b) h = omega (arith, h, div-le_self a (suc b))

remainder_small : (a b : ℕ) → a < 65536 → Small (remainder a b)
remainder_small a zero h = tt
remainder_small a (suc b) h = omega (arith, h, mod-le a (suc b))

shifted_small : (a k : ℕ) → a < 65536 → a / 2 ^ k < 65536
shifted_small a k h = omega (arith, h, div-le_self a (2 ^ k))

-- ---- words with sign

size_of_sign : (p : Bool) (v : ℕ) → nat_le 32768 v ≡ p → v < 65536 → unsigned_abs (if p then pos v -ℤ pos 65536 else pos v) ≤ 32768
size_of_sign true v e h =
    let is : pos v -ℤ pos 65536 ≡ negsuc (65535 - v) = omega (arith, ints) in
    subst (λ z. unsigned_abs z ≤ 32768) (sym is) (omega (arith, leb-true 32768 v e))
size_of_sign false v e h = omega (arith, leb-false 32768 v e)

signed_size : (v : ℕ) → v < 65536 → unsigned_abs (signed 65536 v) ≤ 32768
signed_size v h = size_of_sign (nat_le 32768 v) v refl h

minus_small : (n : ℕ) → signed_word (neg_ℤ (pos n)) < 65536
minus_small zero = omega arith
minus_small (suc n) = omega arith

divided_small : (x d : ℤ) → unsigned_abs x ≤ 32768 → signed_word (int_div x d) < 65536
divided_small (pos a) (pos b) h = omega (arith, h, div-le_self a b)
divided_small (pos a) (negsuc b) h = minus_small (a / suc b)
divided_small (negsuc a) (pos b) h = minus_small (suc a / b)
divided_small (negsuc a) (negsuc b) h = omega (arith, h, div-le_self (suc a) (suc b))

left_small : (x d : ℤ) → unsigned_abs x ≤ 32768 → signed_word (int_rem x d) < 65536
left_small (pos a) d h = omega (arith, h, mod-le a (unsigned_abs d))
left_small (negsuc a) d h = minus_small (suc a % unsigned_abs d)

where_divided : (t : Bool) (v : ℕ) → v < 65536 → Small (if t then Some v else None)
where_divided true v h = h
where_divided false v h = tt

binary_result : (o : BinaryOperation) (w : Width) (a b : ℕ) → a < 65536 → b < 65536 → Small (binary_value o w a b)
binary_result binary.Multiply w a b h k = low_small w (a * b)
binary_result binary.Divide w a b h k = quotient_small a b h
binary_result binary.Modulo w a b h k = remainder_small a b h
binary_result binary.Add w a b h k = low_small w (a + b)
binary_result binary.Subtract w a b h k = low_small w (a + 65536 - b)
binary_result binary.Equal w a b h k = truth_small (nat_eq a b)
binary_result binary.NotEqual w a b h k = truth_small (not (nat_eq a b))
binary_result binary.Less w a b h k = truth_small (nat_lt a b)
binary_result binary.LessEqual w a b h k = truth_small (nat_le a b)
binary_result binary.Greater w a b h k = truth_small (nat_lt b a)
binary_result binary.GreaterEqual w a b h k = truth_small (nat_le b a)
binary_result binary.And w a b h k = omega (arith, h, and_le_l a b)
binary_result binary.Or w a b h k = or_of_16 a b h k
binary_result binary.ExclusiveOr w a b h k = xor_of_16 a b h k
binary_result binary.ShiftLeft w a b h k = low_small w (a * 2 ^ (b % 256))
binary_result binary.ShiftRight w a b h k = shifted_small (low w a) (b % 256) (low_small w a)
binary_result binary.RotateLeft w a b h k = low_small w _
binary_result binary.RotateRight w a b h k = low_small w _
binary_result binary.DivideSigned w a b h k = where_divided (has_quotient a b) _ (divided_small (signed 65536 a) (signed 65536 b) (signed_size a h))
binary_result binary.ModuloSigned w a b h k = where_divided (has_quotient a b) _ (left_small (signed 65536 a) (signed 65536 b) (signed_size a h))
binary_result binary.LessSigned w a b h k = truth_small (signed_less a b)
binary_result binary.LessEqualSigned w a b h k = truth_small (not (signed_less b a))
binary_result binary.GreaterSigned w a b h k = truth_small (signed_less b a)
binary_result binary.GreaterEqualSigned w a b h k = truth_small (not (signed_less a b))

pub binary_small : (o : BinaryOperation) (w : Width) (a b v : ℕ) → a < 65536 → b < 65536 → binary_value o w a b ≡ Some v → v < 65536
binary_small o w a b v h k e = subst Small e (binary_result o w a b h k)
