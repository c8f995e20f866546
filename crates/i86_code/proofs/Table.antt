-- The table of opcodes: each byte is at most one opcode's, and each opcode is found at its byte.
use Rattle.std.proofs.Common.{◌≡◌, ℕ, zero, suc, ◌<◌, ◌==◌, ◌&&◌, Bool, true, Option, Some, None, refl, subst, arith, inl, inr}
use Rattle.std.proofs.lemmas.Bool.{cases_lt, and_parts}
use Rattle.i86_table.specs.declared.instruction.AluOperation.TheVariants.{Add, Or, Adc, Sbb, And, Sub, Xor, Cmp}
use Rattle.i86_table.specs.declared.instruction.Condition.TheVariants as conditions
use Rattle.i86_table.specs.declared.instruction.Count.TheVariants as counts
use Rattle.word86.specs.declared.width.Width.TheVariants as widths
use Rattle.i86_table.specs.declared.registers.Register16.TheVariants.{Ax, Cx, Dx, Bx, Sp, Bp, Si, Di}
use Rattle.i86_table.specs.declared.registers.Register8.TheVariants.{Al, Cl, Dl, Bl, Ah, Ch, Dh, Bh}
use Rattle.i86_table.specs.declared.registers.Segment.TheVariants as segments
use Rattle.i86_table.specs.declared.registers.LoadableSegment.TheVariants as loadables
use Rattle.i86_code.specs.declared.form.Opcode.{Opcode}
use Rattle.i86_code.specs.declared.form.Opcode.TheVariants as op
use Rattle.i86_code.specs.Opcode.{opcode_at, opcode_below_40, opcode_below_80, opcode_below_90, opcode_below_a0, opcode_below_c0, opcode_below_e0, opcode_below_f0, opcode_from_f0}
use Rattle.i86_code.specs.Forms.{opcode_byte}

-- a test of every number below n
abbrev below : ℕ → (ℕ → Bool) → Bool
below zero t = true
below (suc n) t = t n && below n t

below-at : (n : ℕ) (t : ℕ → Bool) (k : ℕ) → below n t ≡ true → k < n → t k ≡ true
below-at zero t k e lt = absurd (omega arith)
below-at (suc n) t k e lt =
    elim (cases_lt k n) [
      | inl less ↦ below-at n t k (and_parts (t n) (below n t) e).1 less
      | inr le ↦ let same : n ≡ k = omega arith in subst (λ (j : ℕ). t j ≡ true) same (and_parts (t n) (below n t) e).0
    ]

-- the opcode found at a byte has that byte
test_found : ℕ → Option Opcode → Bool
unfolding opcode_byte
test_found n None = true
test_found n (Some k) = opcode_byte k == n

found_is : (n : ℕ) (o : Option Opcode) (k : Opcode) → test_found n o ≡ true → o ≡ Some k → opcode_byte k ≡ n
unfolding test_found
found_is n None k e f = absurd cc
found_is n (Some j) k e f = let same : j ≡ k = cc in grind (arith, e, same)

all_found : below 256 (λ n. test_found n (opcode_at n)) ≡ true
unfolding test_found opcode_at opcode_below_40 opcode_below_80 opcode_below_90 opcode_below_a0 opcode_below_c0 opcode_below_e0 opcode_below_f0 opcode_from_f0 opcode_byte
all_found = refl

-- what a byte is read as has that byte
pub opcode_found : (n : ℕ) (k : Opcode) → n < 256 → opcode_at n ≡ Some k → opcode_byte k ≡ n
opcode_found n k lt e = found_is n (opcode_at n) k (below-at 256 (λ n. test_found n (opcode_at n)) n all_found lt) e

-- no prefix is an opcode
pub repeat_is_none : opcode_at 0xF3 ≡ None
unfolding opcode_at opcode_below_40 opcode_below_80 opcode_below_90 opcode_below_a0 opcode_below_c0 opcode_below_e0 opcode_below_f0 opcode_from_f0
repeat_is_none = refl

pub override_is_none : (opcode_at 0x26 ≡ None) × (opcode_at 0x2E ≡ None) × (opcode_at 0x36 ≡ None) × (opcode_at 0x3E ≡ None)
unfolding opcode_at opcode_below_40 opcode_below_80 opcode_below_90 opcode_below_a0 opcode_below_c0 opcode_below_e0 opcode_below_f0 opcode_from_f0
override_is_none = (refl, refl, refl, refl)

-- each opcode is found at its byte
pub opcode_again : (k : Opcode) → opcode_at (opcode_byte k) ≡ Some k
unfolding opcode_at opcode_below_40 opcode_below_80 opcode_below_90 opcode_below_a0 opcode_below_c0 opcode_below_e0 opcode_below_f0 opcode_from_f0 opcode_byte
opcode_again (op.AluToPlace Add widths.Byte) = refl
opcode_again (op.AluToPlace Add widths.Word) = refl
opcode_again (op.AluToPlace Or widths.Byte) = refl
opcode_again (op.AluToPlace Or widths.Word) = refl
opcode_again (op.AluToPlace Adc widths.Byte) = refl
opcode_again (op.AluToPlace Adc widths.Word) = refl
opcode_again (op.AluToPlace Sbb widths.Byte) = refl
opcode_again (op.AluToPlace Sbb widths.Word) = refl
opcode_again (op.AluToPlace And widths.Byte) = refl
opcode_again (op.AluToPlace And widths.Word) = refl
opcode_again (op.AluToPlace Sub widths.Byte) = refl
opcode_again (op.AluToPlace Sub widths.Word) = refl
opcode_again (op.AluToPlace Xor widths.Byte) = refl
opcode_again (op.AluToPlace Xor widths.Word) = refl
opcode_again (op.AluToPlace Cmp widths.Byte) = refl
opcode_again (op.AluToPlace Cmp widths.Word) = refl
opcode_again (op.AluToRegister Add widths.Byte) = refl
opcode_again (op.AluToRegister Add widths.Word) = refl
opcode_again (op.AluToRegister Or widths.Byte) = refl
opcode_again (op.AluToRegister Or widths.Word) = refl
opcode_again (op.AluToRegister Adc widths.Byte) = refl
opcode_again (op.AluToRegister Adc widths.Word) = refl
opcode_again (op.AluToRegister Sbb widths.Byte) = refl
opcode_again (op.AluToRegister Sbb widths.Word) = refl
opcode_again (op.AluToRegister And widths.Byte) = refl
opcode_again (op.AluToRegister And widths.Word) = refl
opcode_again (op.AluToRegister Sub widths.Byte) = refl
opcode_again (op.AluToRegister Sub widths.Word) = refl
opcode_again (op.AluToRegister Xor widths.Byte) = refl
opcode_again (op.AluToRegister Xor widths.Word) = refl
opcode_again (op.AluToRegister Cmp widths.Byte) = refl
opcode_again (op.AluToRegister Cmp widths.Word) = refl
opcode_again (op.AluAccumulator Add widths.Byte) = refl
opcode_again (op.AluAccumulator Add widths.Word) = refl
opcode_again (op.AluAccumulator Or widths.Byte) = refl
opcode_again (op.AluAccumulator Or widths.Word) = refl
opcode_again (op.AluAccumulator Adc widths.Byte) = refl
opcode_again (op.AluAccumulator Adc widths.Word) = refl
opcode_again (op.AluAccumulator Sbb widths.Byte) = refl
opcode_again (op.AluAccumulator Sbb widths.Word) = refl
opcode_again (op.AluAccumulator And widths.Byte) = refl
opcode_again (op.AluAccumulator And widths.Word) = refl
opcode_again (op.AluAccumulator Sub widths.Byte) = refl
opcode_again (op.AluAccumulator Sub widths.Word) = refl
opcode_again (op.AluAccumulator Xor widths.Byte) = refl
opcode_again (op.AluAccumulator Xor widths.Word) = refl
opcode_again (op.AluAccumulator Cmp widths.Byte) = refl
opcode_again (op.AluAccumulator Cmp widths.Word) = refl
opcode_again (op.PushSegment segments.Es) = refl
opcode_again (op.PushSegment segments.Cs) = refl
opcode_again (op.PushSegment segments.Ss) = refl
opcode_again (op.PushSegment segments.Ds) = refl
opcode_again (op.PopSegment loadables.Es) = refl
opcode_again (op.PopSegment loadables.Ss) = refl
opcode_again (op.PopSegment loadables.Ds) = refl
opcode_again (op.Increment Ax) = refl
opcode_again (op.Increment Cx) = refl
opcode_again (op.Increment Dx) = refl
opcode_again (op.Increment Bx) = refl
opcode_again (op.Increment Sp) = refl
opcode_again (op.Increment Bp) = refl
opcode_again (op.Increment Si) = refl
opcode_again (op.Increment Di) = refl
opcode_again (op.Decrement Ax) = refl
opcode_again (op.Decrement Cx) = refl
opcode_again (op.Decrement Dx) = refl
opcode_again (op.Decrement Bx) = refl
opcode_again (op.Decrement Sp) = refl
opcode_again (op.Decrement Bp) = refl
opcode_again (op.Decrement Si) = refl
opcode_again (op.Decrement Di) = refl
opcode_again (op.Push Ax) = refl
opcode_again (op.Push Cx) = refl
opcode_again (op.Push Dx) = refl
opcode_again (op.Push Bx) = refl
opcode_again (op.Push Sp) = refl
opcode_again (op.Push Bp) = refl
opcode_again (op.Push Si) = refl
opcode_again (op.Push Di) = refl
opcode_again (op.Pop Ax) = refl
opcode_again (op.Pop Cx) = refl
opcode_again (op.Pop Dx) = refl
opcode_again (op.Pop Bx) = refl
opcode_again (op.Pop Sp) = refl
opcode_again (op.Pop Bp) = refl
opcode_again (op.Pop Si) = refl
opcode_again (op.Pop Di) = refl
opcode_again (op.JumpIf conditions.Overflow) = refl
opcode_again (op.JumpIf conditions.NotOverflow) = refl
opcode_again (op.JumpIf conditions.Below) = refl
opcode_again (op.JumpIf conditions.NotBelow) = refl
opcode_again (op.JumpIf conditions.Equal) = refl
opcode_again (op.JumpIf conditions.NotEqual) = refl
opcode_again (op.JumpIf conditions.BelowOrEqual) = refl
opcode_again (op.JumpIf conditions.Above) = refl
opcode_again (op.JumpIf conditions.Sign) = refl
opcode_again (op.JumpIf conditions.NotSign) = refl
opcode_again (op.JumpIf conditions.ParityEven) = refl
opcode_again (op.JumpIf conditions.ParityOdd) = refl
opcode_again (op.JumpIf conditions.Less) = refl
opcode_again (op.JumpIf conditions.NotLess) = refl
opcode_again (op.JumpIf conditions.LessOrEqual) = refl
opcode_again (op.JumpIf conditions.Greater) = refl
opcode_again (op.AluImmediate widths.Byte) = refl
opcode_again (op.AluImmediate widths.Word) = refl
opcode_again op.AluShort = refl
opcode_again (op.Test widths.Byte) = refl
opcode_again (op.Test widths.Word) = refl
opcode_again (op.Exchange widths.Byte) = refl
opcode_again (op.Exchange widths.Word) = refl
opcode_again (op.MoveToPlace widths.Byte) = refl
opcode_again (op.MoveToPlace widths.Word) = refl
opcode_again (op.MoveToRegister widths.Byte) = refl
opcode_again (op.MoveToRegister widths.Word) = refl
opcode_again op.MoveFromSegment = refl
opcode_again op.LoadAddress = refl
opcode_again op.MoveToSegment = refl
opcode_again op.PopPlace = refl
opcode_again (op.ExchangeAccumulator Ax) = refl
opcode_again (op.ExchangeAccumulator Cx) = refl
opcode_again (op.ExchangeAccumulator Dx) = refl
opcode_again (op.ExchangeAccumulator Bx) = refl
opcode_again (op.ExchangeAccumulator Sp) = refl
opcode_again (op.ExchangeAccumulator Bp) = refl
opcode_again (op.ExchangeAccumulator Si) = refl
opcode_again (op.ExchangeAccumulator Di) = refl
opcode_again op.ConvertByte = refl
opcode_again op.ConvertWord = refl
opcode_again op.PushFlags = refl
opcode_again op.PopFlags = refl
opcode_again (op.MoveFromDirect widths.Byte) = refl
opcode_again (op.MoveFromDirect widths.Word) = refl
opcode_again (op.MoveToDirect widths.Byte) = refl
opcode_again (op.MoveToDirect widths.Word) = refl
opcode_again (op.MoveString widths.Byte) = refl
opcode_again (op.MoveString widths.Word) = refl
opcode_again (op.TestAccumulator widths.Byte) = refl
opcode_again (op.TestAccumulator widths.Word) = refl
opcode_again (op.StoreString widths.Byte) = refl
opcode_again (op.StoreString widths.Word) = refl
opcode_again (op.MoveRegisterByte Al) = refl
opcode_again (op.MoveRegisterByte Cl) = refl
opcode_again (op.MoveRegisterByte Dl) = refl
opcode_again (op.MoveRegisterByte Bl) = refl
opcode_again (op.MoveRegisterByte Ah) = refl
opcode_again (op.MoveRegisterByte Ch) = refl
opcode_again (op.MoveRegisterByte Dh) = refl
opcode_again (op.MoveRegisterByte Bh) = refl
opcode_again (op.MoveRegisterWord Ax) = refl
opcode_again (op.MoveRegisterWord Cx) = refl
opcode_again (op.MoveRegisterWord Dx) = refl
opcode_again (op.MoveRegisterWord Bx) = refl
opcode_again (op.MoveRegisterWord Sp) = refl
opcode_again (op.MoveRegisterWord Bp) = refl
opcode_again (op.MoveRegisterWord Si) = refl
opcode_again (op.MoveRegisterWord Di) = refl
opcode_again op.ReturnDropping = refl
opcode_again op.Return = refl
opcode_again (op.MoveImmediate widths.Byte) = refl
opcode_again (op.MoveImmediate widths.Word) = refl
opcode_again op.InterruptReturn = refl
opcode_again (op.Shift widths.Byte counts.One) = refl
opcode_again (op.Shift widths.Byte counts.Cl) = refl
opcode_again (op.Shift widths.Word counts.One) = refl
opcode_again (op.Shift widths.Word counts.Cl) = refl
opcode_again op.Loop = refl
opcode_again op.JumpIfCxZero = refl
opcode_again (op.InFixed widths.Byte) = refl
opcode_again (op.InFixed widths.Word) = refl
opcode_again (op.OutFixed widths.Byte) = refl
opcode_again (op.OutFixed widths.Word) = refl
opcode_again op.Call = refl
opcode_again op.Jump = refl
opcode_again op.JumpFar = refl
opcode_again op.JumpShort = refl
opcode_again (op.InDx widths.Byte) = refl
opcode_again (op.InDx widths.Word) = refl
opcode_again (op.OutDx widths.Byte) = refl
opcode_again (op.OutDx widths.Word) = refl
opcode_again op.Halt = refl
opcode_again op.ComplementCarry = refl
opcode_again (op.UnaryGroup widths.Byte) = refl
opcode_again (op.UnaryGroup widths.Word) = refl
opcode_again op.ClearCarry = refl
opcode_again op.SetCarry = refl
opcode_again op.DisableInterrupts = refl
opcode_again op.EnableInterrupts = refl
opcode_again op.ClearDirection = refl
opcode_again op.SetDirection = refl
opcode_again (op.StepGroup widths.Byte) = refl
opcode_again (op.StepGroup widths.Word) = refl
