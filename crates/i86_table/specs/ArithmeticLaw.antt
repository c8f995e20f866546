-- What the arithmetic computes, in terms of numbers with sign, powers of two, quotients and remainders.
use Rattle.std.specs.Prelude.{ℕ, false, not, ◌+◌, ◌-◌, ◌*◌, ◌/◌, ◌%◌, ◌^◌, ◌<◌, ◌≤◌, ◌≡◌, ◌⊎◌, ◌==◌, nat_le, ℤ, pos, neg_ℤ, ◌+ℤ◌, ◌-ℤ◌, ◌*ℤ◌, int_div, Some, None}
use Rattle.std.specs.Int.Signed.{shr_z}
use Rattle.word86.specs.declared.width.Width.{Width}
use Rattle.word86.specs.Arithmetic.{rotated_left, rotated_right}
use Rattle.word86.specs.Signed.{signed, in_range}
use Rattle.word86.specs.DivisionLaw.{IsQuotient}
use Rattle.i86_table.specs.declared.instruction.AluOperation.TheVariants.{Add, Adc, Sub, Sbb, Cmp}
use Rattle.i86_table.specs.declared.instruction.UnaryOperation.TheVariants.{Neg, Inc, Dec}
use Rattle.i86_table.specs.declared.instruction.ShiftOperation.TheVariants.{Rol, Ror, Shl, Shr, Sar}
use Rattle.i86_table.specs.declared.instruction.Signedness.TheVariants.{Unsigned, Signed}
use Rattle.i86_table.specs.declared.outcome.Division.{Division}
use Rattle.i86_table.specs.declared.flags.Flags.{Flags}
use Rattle.word86.specs.Access.{values}
use Rattle.i86_table.specs.Arithmetic.{number_of, has, is_carry, sign, operated, changed, shifted, multiplied, divided}

-- OF is set exactly where a result with sign leaves the range of its width
abbrev pub OverflowTells : Width → ℤ → Flags → Type 0
OverflowTells width z f = has f 2048 ≡ not (in_range (values width) z)

pub record OverflowLaws : Type 0 where
  pub add : (width : Width) (a b : ℕ) (f : Flags) → a < values width → b < values width →
      OverflowTells width (signed (values width) a +ℤ signed (values width) b) (operated Add width a b f).flags
  pub adc : (width : Width) (a b : ℕ) (f : Flags) → a < values width → b < values width →
      OverflowTells width (signed (values width) a +ℤ signed (values width) b +ℤ pos (number_of (is_carry f))) (operated Adc width a b f).flags
  pub sub : (width : Width) (a b : ℕ) (f : Flags) → a < values width → b < values width →
      OverflowTells width (signed (values width) a -ℤ signed (values width) b) (operated Sub width a b f).flags
  pub sbb : (width : Width) (a b : ℕ) (f : Flags) → a < values width → b < values width →
      OverflowTells width (signed (values width) a -ℤ signed (values width) b -ℤ pos (number_of (is_carry f))) (operated Sbb width a b f).flags
  pub cmp : (width : Width) (a b : ℕ) (f : Flags) → a < values width → b < values width →
      OverflowTells width (signed (values width) a -ℤ signed (values width) b) (operated Cmp width a b f).flags
  pub neg : (width : Width) (a : ℕ) (f : Flags) → a < values width →
      OverflowTells width (neg_ℤ (signed (values width) a)) (changed Neg width a f).flags
  pub inc : (width : Width) (a : ℕ) (f : Flags) → a < values width →
      OverflowTells width (signed (values width) a +ℤ pos 1) (changed Inc width a f).flags
  pub dec : (width : Width) (a : ℕ) (f : Flags) → a < values width →
      OverflowTells width (signed (values width) a -ℤ pos 1) (changed Dec width a f).flags

-- The count of a shift is not masked. CF is the bit that went out last: of the product, the one above the width; of the quotient, the one below the point.
pub record ShiftLaws : Type 0 where
  pub shl : (width : Width) (a n : ℕ) (f : Flags) → a < values width → (shifted Shl width a n f).value ≡ a * 2 ^ n % values width
  pub shl_carry : (width : Width) (a n : ℕ) (f : Flags) → a < values width → 0 < n → has (shifted Shl width a n f).flags 1 ≡ (a * 2 ^ n / values width % 2 == 1)
  pub shr : (width : Width) (a n : ℕ) (f : Flags) → (shifted Shr width a n f).value ≡ a / 2 ^ n
  pub shr_carry : (width : Width) (a n : ℕ) (f : Flags) → 0 < n → has (shifted Shr width a n f).flags 1 ≡ (a / 2 ^ (n - 1) % 2 == 1)
  -- the quotient of the number with sign, rounded down
  pub sar : (width : Width) (a n : ℕ) (f : Flags) → a < values width → signed (values width) (shifted Sar width a n f).value ≡ shr_z (signed (values width) a) (2 ^ n)
  pub sar_carry : (width : Width) (a n : ℕ) (f : Flags) → 0 < n → has (shifted Sar width a n f).flags 1 ≡ ((shifted Sar width a (n - 1) f).value % 2 == 1)

-- CF is the bit that came in last at the other end
pub record RotationLaws : Type 0 where
  pub rol : (width : Width) (a n : ℕ) (f : Flags) → a < values width → (shifted Rol width a n f).value ≡ rotated_left width a n
  pub rol_carry : (width : Width) (a n : ℕ) (f : Flags) → a < values width → 0 < n → has (shifted Rol width a n f).flags 1 ≡ ((shifted Rol width a n f).value % 2 == 1)
  pub ror : (width : Width) (a n : ℕ) (f : Flags) → a < values width → (shifted Ror width a n f).value ≡ rotated_right width a n
  pub ror_carry : (width : Width) (a n : ℕ) (f : Flags) → a < values width → 0 < n → has (shifted Ror width a n f).flags 1 ≡ sign width (shifted Ror width a n f).value

-- The product of numbers with sign. CF and OF tell that its upper half is needed: that the width alone cannot hold it.
pub record ProductLaws : Type 0 where
  pub mul : (width : Width) (a b : ℕ) (f : Flags) → (multiplied Unsigned width a b f).value ≡ a * b
  pub mul_carry : (width : Width) (a b : ℕ) (f : Flags) → has (multiplied Unsigned width a b f).flags 1 ≡ nat_le (values width) (a * b)
  pub mul_overflow : (width : Width) (a b : ℕ) (f : Flags) → has (multiplied Unsigned width a b f).flags 2048 ≡ nat_le (values width) (a * b)
  pub imul : (width : Width) (a b : ℕ) (f : Flags) → a < values width → b < values width →
      signed (values width * values width) (multiplied Signed width a b f).value ≡ signed (values width) a *ℤ signed (values width) b
  pub imul_carry : (width : Width) (a b : ℕ) (f : Flags) → a < values width → b < values width →
      has (multiplied Signed width a b f).flags 1 ≡ not (in_range (values width) (signed (values width) a *ℤ signed (values width) b))
  pub imul_overflow : (width : Width) (a b : ℕ) (f : Flags) → a < values width → b < values width →
      OverflowTells width (signed (values width) a *ℤ signed (values width) b) (multiplied Signed width a b f).flags

-- A division is a fault where the divisor is 0 or the quotient out of its range alone; the dividend has twice the width.
pub record QuotientLaws : Type 0 where
  pub div : (width : Width) (a b : ℕ) (d : Division) → divided Unsigned width a b ≡ Some d → (d.quotient * b + d.remainder ≡ a) × (d.remainder < b)
  pub div_fault : (width : Width) (a b : ℕ) → divided Unsigned width a b ≡ None → (b ≡ 0) ⊎ (values width ≤ a / b)
  pub idiv : (width : Width) (a b : ℕ) (d : Division) → a < values width * values width → b < values width → divided Signed width a b ≡ Some d →
      IsQuotient (signed (values width * values width) a) (signed (values width) b) (signed (values width) d.quotient) (signed (values width) d.remainder)
  pub idiv_fault : (width : Width) (a b : ℕ) → a < values width * values width → b < values width → divided Signed width a b ≡ None →
      (b ≡ 0) ⊎ (in_range (values width) (int_div (signed (values width * values width) a) (signed (values width) b)) ≡ false)
