-- What a step that is added leaves in AX and in the flags.
use Rattle.std.proofs.Common.{◌≡◌, ℕ, ◌+◌, ◌*◌, ◌/◌, ◌%◌, ◌<◌, ◌≤◌, ◌⊎◌, inl, inr, Bool, true, false, List, [], ◌∷◌, Option, refl, sym, ap, ◌∙◌, nat_eq, arith}
use Rattle.std.specs.Prelude.{nat_lt, nat_le, not, if◌then◌else◌}
use Rattle.std.proofs.lemmas.Bool.{cases_lt, lt-ltb, le-ltb, le-leb, lt-leb, eq-eqb, ne_eqb, eqb-true}
use Rattle.word86.specs.declared.width.Width.{Width}
use Rattle.word86.specs.declared.width.Width.TheVariants as widths
use Rattle.word86.specs.Access.{values}
use Rattle.word86.specs.Arithmetic.{low}
use Rattle.i86_table.specs.declared.registers.Register16.TheVariants.{Ax}
use Rattle.i86_table.specs.declared.registers.Register8.TheVariants.{Al}
use Rattle.i86_table.specs.declared.flags.Flags.{Flags}
use Rattle.i86_table.specs.declared.instruction.AluOperation.TheVariants.{Add}
use Rattle.i86_table.specs.declared.instruction.UnaryOperation.TheVariants.{Inc}
use Rattle.i86_table.specs.declared.instruction.Condition.{Condition}
use Rattle.i86_table.specs.declared.instruction.Condition.TheVariants.{NotEqual, NotBelow}
use Rattle.i86_table.specs.declared.instruction.Instr.{Instr}
use Rattle.i86_table.specs.Arithmetic.{operated, added, changed}
use Rattle.i86_table.specs.Condition.{holds}
use Rattle.i86_table.specs.Contexts.{Working, Given, alu_byte, alu_word, byte_result, word_result}
use Rattle.icode.specs.Machine.{with_low}
use Rattle.icode.specs.Registers.{just_accumulator}
use Rattle.select.specs.Rows.{increment, sum_number, step_added, stays_in_range}
use Rattle.select.proofs.Rests.{Laws}
use Rattle.select.proofs.Keeping.{OnlyChanges}
use Rattle.select.proofs.Straight.{Straight}
use Rattle.select.proofs.Flags

pub low_below : (w : Width) (v : ℕ) → low w v < values w
low_below widths.Byte v = omega arith
low_below widths.Word v = omega arith

pub low_kept : (w : Width) (a v : ℕ) → low w (with_low w a v) ≡ low w v
low_kept widths.Byte a v = omega arith
low_kept widths.Word a v = omega arith

pub with_low_small : (w : Width) (a v : ℕ) → a < 65536 → with_low w a v < 65536
with_low_small widths.Byte a v l = omega (arith, l)
with_low_small widths.Word a v l = omega (arith, l)

-- a sum that is too large is below the step
byte_carries : (a k : ℕ) → k < 256 → nat_le 256 (a % 256 + k % 256 + 0) ≡ nat_lt ((a + k) % 256) k
byte_carries a k h = by (cases_lt ((a + k) % 256) k)
  where
    by : ((a + k) % 256 < k) ⊎ (k ≤ (a + k) % 256) → nat_le 256 (a % 256 + k % 256 + 0) ≡ nat_lt ((a + k) % 256) k
    by (inl l) = le-leb 256 (a % 256 + k % 256 + 0) (omega (arith, l, h)) ∙ sym (lt-ltb ((a + k) % 256) k l)
    by (inr l) = lt-leb 256 (a % 256 + k % 256 + 0) (omega (arith, l, h)) ∙ sym (le-ltb ((a + k) % 256) k l)

word_carries : (a k : ℕ) → a < 65536 → k < 65536 → nat_le 65536 (a + k + 0) ≡ nat_lt ((a + k) % 65536) k
word_carries a k g h = by (cases_lt ((a + k) % 65536) k)
  where
    by : ((a + k) % 65536 < k) ⊎ (k ≤ (a + k) % 65536) → nat_le 65536 (a + k + 0) ≡ nat_lt ((a + k) % 65536) k
    by (inl l) = le-leb 65536 (a + k + 0) (omega (arith, l, g, h)) ∙ sym (lt-ltb ((a + k) % 65536) k l)
    by (inr l) = lt-leb 65536 (a + k + 0) (omega (arith, l, g, h)) ∙ sym (le-ltb ((a + k) % 65536) k l)

-- 0 is what is below a step of 1
none_below : (x y k : ℕ) → k ≡ 1 → x ≡ y → nat_eq x 0 ≡ nat_lt y k
none_below x y k one e = by (cases_lt y k)
  where
    by : (y < k) ⊎ (k ≤ y) → nat_eq x 0 ≡ nat_lt y k
    by (inl l) = eq-eqb x 0 (omega (arith, l, one, e)) ∙ sym (lt-ltb y k l)
    by (inr l) = ne_eqb x 0 (λ z. omega (arith, l, one, e, z)) ∙ sym (le-ltb y k l)

increment_is : (width : Width) (a : ℕ) (f : Flags) → (changed Inc width a f).value ≡ (a + 1 + 0) % values width
unfolding changed added
increment_is width a f = refl

sum_is : (width : Width) (a b : ℕ) (f : Flags) → (operated Add width a b f).value ≡ (a + b + 0) % values width
unfolding operated added
sum_is width a b f = refl

module _ (laws : Laws) (find : ℕ → ℕ → Option (ℕ × ℕ)) (words : ℕ → Option ℕ) (main handler : ℕ) (given : Option Given) where
  -- an instruction adds a step, and a condition tells whether the sum stays in the range of the width
  abbrev pub Steps : Width → ℕ → Instr → Condition → Working → List ℕ → Type 0
  Steps width k n c g st =
      (h : Working) × Straight find words main handler given (n ∷ []) g st h st × (h.ax ≡ with_low width g.ax (g.ax + k)) × (k < values width → holds c h.flags ≡ not (nat_lt (low width (g.ax + k)) k)) × OnlyChanges just_accumulator g h

  pub step_gives : (width : Width) (k : ℕ) (g : Working) (st : List ℕ) → g.ax < 65536 → Steps width k (step_added width k) (stays_in_range k) g st
  step_gives width k g st a = by (nat_eq k 1) refl width
    where
      by : (b : Bool) → nat_eq k 1 ≡ b → (width : Width) → Steps width k (if b then increment width else sum_number Add width k) (if b then NotEqual else NotBelow) g st
      by true is widths.Byte =
          let one : k ≡ 1 = eqb-true k 1 is in
          let h = byte_result Al g (changed Inc widths.Byte (g.ax % 256) g.flags) in
          let value : (g.ax % 256 + 1 + 0) % 256 ≡ (g.ax + k) % 256 = omega (arith, one) in (
            h,
            (h, st, λ q. refl, (refl, refl)),
            ap (λ z. g.ax / 256 * 256 + z) (increment_is widths.Byte (g.ax % 256) g.flags ∙ value),
            λ l. ap not (Flags.increment_zero laws widths.Byte (g.ax % 256) g.flags ∙ none_below _ _ k one value),
            (tt, refl, refl, refl, refl, refl, refl),
          )
      by true is widths.Word =
          let one : k ≡ 1 = eqb-true k 1 is in
          let h = word_result Ax g (changed Inc widths.Word g.ax g.flags) in
          let value : (g.ax + 1 + 0) % 65536 ≡ (g.ax + k) % 65536 = omega (arith, one) in (
            h,
            (h, st, λ q. refl, (refl, refl)),
            increment_is widths.Word g.ax g.flags ∙ value,
            λ l. ap not (Flags.increment_zero laws widths.Word g.ax g.flags ∙ none_below _ _ k one value),
            (tt, refl, refl, refl, refl, refl, refl),
          )
      by false is widths.Byte =
          let h = alu_byte Add Al (k % 256) g in
          let value : (g.ax % 256 + k % 256 + 0) % 256 ≡ (g.ax + k) % 256 = omega arith in (
            h,
            (h, st, λ q. refl, (refl, refl)),
            ap (λ z. g.ax / 256 * 256 + z) (sum_is widths.Byte (g.ax % 256) (k % 256) g.flags ∙ value),
            λ l. ap not (Flags.add_carry laws widths.Byte (g.ax % 256) (k % 256) g.flags ∙ byte_carries g.ax k l),
            (tt, refl, refl, refl, refl, refl, refl),
          )
      by false is widths.Word =
          let h = alu_word Add Ax k g in
          let value : (g.ax + k + 0) % 65536 ≡ (g.ax + k) % 65536 = omega arith in (
            h,
            (h, st, λ q. refl, (refl, refl)),
            sum_is widths.Word g.ax k g.flags ∙ value,
            λ l. ap not (Flags.add_carry laws widths.Word g.ax k g.flags ∙ word_carries g.ax k a l),
            (tt, refl, refl, refl, refl, refl, refl),
          )
