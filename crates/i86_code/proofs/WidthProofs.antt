-- The immediate operands of what is decoded have their widths.
use Rattle.std.proofs.Common.{ℕ, ◌+◌, ◌<◌, Bool, true, false, Option, Some, None, subst, arith}
use Rattle.std.specs.Prelude.{nat_lt, ◌==◌, ◌&&◌, not, if◌then◌else◌}
use Rattle.word86.specs.declared.width.Width.{Width}
use Rattle.word86.specs.declared.width.Width.TheVariants as widths
use Rattle.i86_table.specs.declared.registers.Register16.{Register16}
use Rattle.i86_table.specs.declared.registers.Register16.TheVariants.{Ax, Cx, Dx, Bx, Sp, Bp, Si, Di}
use Rattle.i86_table.specs.declared.registers.Register8.{Register8}
use Rattle.i86_table.specs.declared.registers.LoadableSegment.{LoadableSegment}
use Rattle.i86_table.specs.declared.instruction.AluOperation.{AluOperation}
use Rattle.i86_table.specs.declared.instruction.ShiftOperation.{ShiftOperation}
use Rattle.i86_table.specs.declared.instruction.Count.{Count}
use Rattle.i86_table.specs.declared.instruction.RmOperand.{RmOperand}
use Rattle.i86_table.specs.declared.instruction.RmOperand.TheVariants as rm
use Rattle.i86_table.specs.declared.instruction.Instr.{Instr}
use Rattle.i86_table.specs.declared.instruction.Instr.TheVariants as i
use Rattle.i86_table.specs.Arithmetic.{sign_extended}
use Rattle.i86_table.specs.Widths.{HasWidths}
use Rattle.i86_code.specs.declared.form.Opcode.{Opcode}
use Rattle.i86_code.specs.declared.form.Opcode.TheVariants as op
use Rattle.i86_code.specs.declared.form.Fields.{Fields}
use Rattle.i86_code.specs.declared.form.Fields.TheVariants as fields
use Rattle.i86_code.specs.declared.form.Prefixes.{Prefixes}
use Rattle.i86_code.specs.declared.form.RegisterOrMemory.{RegisterOrMemory}
use Rattle.i86_code.specs.declared.form.Form.{Form}
use Rattle.i86_code.specs.Forms.{FieldsFit}
use Rattle.i86_code.specs.Opcode.{byte_register_at, word_register_at, loadable_at}
use Rattle.i86_code.specs.Instructions.{byte_operand, word_operand, to_register, exchanged_byte, exchanged_word, exchanged_accumulator, load_address, move_to_segment, shift_at, shift_then, byte_step, word_step, byte_unary, word_unary, is_short, repeats, is_string, addressed_instruction, addressed_byte_instruction, addressed_word_instruction, plain_instruction, byte_instruction, word_instruction, two_words_instruction, unary_instruction, test_byte_instruction, test_word_instruction, instruction_from, instruction_of}
use Rattle.i86_code.specs.Widths.{DecodedHasWidths}
use Rattle.i86_code.proofs.DecodedProofs.{is_decoded_spells}

abbrev WidthsIn : Option Instr → Type 0
WidthsIn None = Unit {0}
WidthsIn (Some n) = HasWidths n

either : (b : Bool) (x y : Option Instr) → WidthsIn x → WidthsIn y → WidthsIn (if b then x else y)
either true x y h k = h
either false x y h k = k

-- ---- no immediate operand

alu_byte_register : (f : AluOperation) (r : Register8) (p : RmOperand Register8) → HasWidths (i.AluByte f (to_register r p))
alu_byte_register f r (rm.Register s) = tt
alu_byte_register f r (rm.Memory m) = tt

alu_word_register : (f : AluOperation) (r : Register16) (p : RmOperand Register16) → HasWidths (i.AluWord f (to_register r p))
alu_word_register f r (rm.Register s) = tt
alu_word_register f r (rm.Memory m) = tt

move_byte_register : (r : Register8) (p : RmOperand Register8) → HasWidths (i.MoveByte (to_register r p))
move_byte_register r (rm.Register s) = tt
move_byte_register r (rm.Memory m) = tt

move_word_register : (r : Register16) (p : RmOperand Register16) → HasWidths (i.MoveWord (to_register r p))
move_word_register r (rm.Register s) = tt
move_word_register r (rm.Memory m) = tt

exchanges_byte : (r : Register8) (p : RmOperand Register8) → HasWidths (exchanged_byte r p)
exchanges_byte r (rm.Register s) = tt
exchanges_byte r (rm.Memory m) = tt

exchanges_word : (r : Register16) (p : RmOperand Register16) → HasWidths (exchanged_word r p)
exchanges_word r (rm.Register s) = tt
exchanges_word r (rm.Memory m) = tt

exchanges_accumulator : (r : Register16) → HasWidths (exchanged_accumulator r)
exchanges_accumulator Ax = tt
exchanges_accumulator Cx = tt
exchanges_accumulator Dx = tt
exchanges_accumulator Bx = tt
exchanges_accumulator Sp = tt
exchanges_accumulator Bp = tt
exchanges_accumulator Si = tt
exchanges_accumulator Di = tt

loads_address : (r : Register16) (p : RmOperand Register16) → WidthsIn (load_address r p)
loads_address r (rm.Register s) = tt
loads_address r (rm.Memory m) = tt

moves_to_segment : (s : Option LoadableSegment) (p : RmOperand Register16) → WidthsIn (move_to_segment s p)
moves_to_segment None p = tt
moves_to_segment (Some s) p = tt

shifts_byte : (s : Option ShiftOperation) (p : RmOperand Register8) (c : Count) → WidthsIn (shift_then s (λ s. i.ShiftByte s p c))
shifts_byte None p c = tt
shifts_byte (Some s) p c = tt

shifts_word : (s : Option ShiftOperation) (p : RmOperand Register16) (c : Count) → WidthsIn (shift_then s (λ s. i.ShiftWord s p c))
shifts_word None p c = tt
shifts_word (Some s) p c = tt

steps_byte : (r : ℕ) (p : RmOperand Register8) → WidthsIn (byte_step r p)
steps_byte r p = either (r == 0) _ _ tt (either (r == 1) _ _ tt tt)

steps_word : (r : ℕ) (p : RmOperand Register16) → WidthsIn (word_step r p)
steps_word r p = either (r == 0) _ _ tt (either (r == 1) _ _ tt (either (r == 2) _ _ tt (either (r == 4) _ _ tt (either (r == 6) _ _ tt tt))))

unary_byte : (r : ℕ) (p : RmOperand Register8) → WidthsIn (byte_unary r p)
unary_byte r p = either (r == 2) _ _ tt (either (r == 3) _ _ tt (either (r == 4) _ _ tt (either (r == 5) _ _ tt (either (r == 6) _ _ tt (either (r == 7) _ _ tt tt)))))

unary_word : (r : ℕ) (p : RmOperand Register16) → WidthsIn (word_unary r p)
unary_word r p = either (r == 2) _ _ tt (either (r == 3) _ _ tt (either (r == 4) _ _ tt (either (r == 5) _ _ tt (either (r == 6) _ _ tt (either (r == 7) _ _ tt tt)))))

plain_widths : (p : Prefixes) (k : Opcode) → WidthsIn (plain_instruction p k)
unfolding plain_instruction
plain_widths p (op.ExchangeAccumulator r) = exchanges_accumulator r
plain_widths p _ = tt

addressed_widths : (p : Prefixes) (k : Opcode) (r : ℕ) (m : RegisterOrMemory) → WidthsIn (addressed_instruction p k r m)
unfolding addressed_instruction
addressed_widths p (op.AluToRegister o widths.Byte) r m = alu_byte_register o (byte_register_at r) (byte_operand p m)
addressed_widths p (op.AluToRegister o widths.Word) r m = alu_word_register o (word_register_at r) (word_operand p m)
addressed_widths p (op.Exchange widths.Byte) r m = exchanges_byte (byte_register_at r) (byte_operand p m)
addressed_widths p (op.Exchange widths.Word) r m = exchanges_word (word_register_at r) (word_operand p m)
addressed_widths p (op.MoveToRegister widths.Byte) r m = move_byte_register (byte_register_at r) (byte_operand p m)
addressed_widths p (op.MoveToRegister widths.Word) r m = move_word_register (word_register_at r) (word_operand p m)
addressed_widths p op.MoveFromSegment r m = either (nat_lt r 4) _ _ tt tt
addressed_widths p op.LoadAddress r m = loads_address (word_register_at r) (word_operand p m)
addressed_widths p op.MoveToSegment r m = moves_to_segment (loadable_at r) (word_operand p m)
addressed_widths p op.PopPlace r m = either (r == 0) _ _ tt tt
addressed_widths p (op.Shift widths.Byte c) r m = shifts_byte (shift_at r) (byte_operand p m) c
addressed_widths p (op.Shift widths.Word c) r m = shifts_word (shift_at r) (word_operand p m) c
addressed_widths p (op.StepGroup widths.Byte) r m = steps_byte r (byte_operand p m)
addressed_widths p (op.StepGroup widths.Word) r m = steps_word r (word_operand p m)
addressed_widths p (op.AluToPlace o widths.Byte) r m = tt
addressed_widths p (op.AluToPlace o widths.Word) r m = tt
addressed_widths p (op.Test widths.Byte) r m = tt
addressed_widths p (op.Test widths.Word) r m = tt
addressed_widths p (op.MoveToPlace widths.Byte) r m = tt
addressed_widths p (op.MoveToPlace widths.Word) r m = tt
addressed_widths p _ r m = tt

unary_widths : (p : Prefixes) (k : Opcode) (w : Width) (r : ℕ) (m : RegisterOrMemory) → WidthsIn (unary_instruction p k w r m)
unary_widths p (op.UnaryGroup widths.Byte) widths.Byte r m = unary_byte r (byte_operand p m)
unary_widths p (op.UnaryGroup widths.Word) widths.Word r m = unary_word r (word_operand p m)
unary_widths p _ w r m = tt

test_byte_widths : (p : Prefixes) (k : Opcode) (m : RegisterOrMemory) (n : ℕ) → WidthsIn (test_byte_instruction p k m n)
test_byte_widths p (op.UnaryGroup widths.Byte) m n = tt
test_byte_widths p _ m n = tt

test_word_widths : (p : Prefixes) (k : Opcode) (m : RegisterOrMemory) (n : ℕ) → WidthsIn (test_word_instruction p k m n)
test_word_widths p (op.UnaryGroup widths.Word) m n = tt
test_word_widths p _ m n = tt

two_words_widths : (k : Opcode) (m n : ℕ) → WidthsIn (two_words_instruction k m n)
two_words_widths op.JumpFar m n = tt
two_words_widths _ m n = tt

-- ---- immediate operands

extended_small : (n : ℕ) → n < 256 → sign_extended n < 65536
extended_small n h = by (nat_lt n 128)
  where
    by : (b : Bool) → (if b then n else n + 65280) < 65536
    by true = omega (arith, h)
    by false = omega (arith, h)

byte_widths : (k : Opcode) (n : ℕ) → n < 256 → WidthsIn (byte_instruction k n)
unfolding byte_instruction
byte_widths (op.AluAccumulator o widths.Byte) n h = h
byte_widths (op.MoveRegisterByte r) n h = h
byte_widths (op.TestAccumulator widths.Byte) n h = tt
byte_widths (op.TestAccumulator widths.Word) n h = tt
byte_widths _ n h = tt

word_widths : (p : Prefixes) (k : Opcode) (n : ℕ) → n < 65536 → WidthsIn (word_instruction p k n)
unfolding word_instruction
word_widths p (op.AluAccumulator o widths.Word) n h = h
word_widths p (op.MoveRegisterWord r) n h = h
word_widths p (op.TestAccumulator widths.Byte) n h = tt
word_widths p (op.TestAccumulator widths.Word) n h = tt
word_widths p (op.MoveFromDirect widths.Byte) n h = tt
word_widths p (op.MoveFromDirect widths.Word) n h = tt
word_widths p (op.MoveToDirect widths.Byte) n h = tt
word_widths p (op.MoveToDirect widths.Word) n h = tt
word_widths p _ n h = tt

addressed_byte_widths : (p : Prefixes) (k : Opcode) (r : ℕ) (m : RegisterOrMemory) (n : ℕ) → n < 256 → WidthsIn (addressed_byte_instruction p k r m n)
unfolding addressed_byte_instruction
addressed_byte_widths p (op.AluImmediate widths.Byte) r m n h = h
addressed_byte_widths p op.AluShort r m n h = either (is_short r) _ _ (extended_small n h) tt
addressed_byte_widths p (op.MoveImmediate widths.Byte) r m n h = either (r == 0) _ _ h tt
addressed_byte_widths p _ r m n h = tt

addressed_word_widths : (p : Prefixes) (k : Opcode) (r : ℕ) (m : RegisterOrMemory) (n : ℕ) → n < 65536 → WidthsIn (addressed_word_instruction p k r m n)
unfolding addressed_word_instruction
addressed_word_widths p (op.AluImmediate widths.Word) r m n h = h
addressed_word_widths p (op.MoveImmediate widths.Word) r m n h = either (r == 0) _ _ h tt
addressed_word_widths p _ r m n h = tt

-- ---- all forms

from_widths : (p : Prefixes) (k : Opcode) (f : Fields) → FieldsFit f → WidthsIn (instruction_from p k f)
unfolding instruction_from
from_widths p k fields.Nothing h = plain_widths p k
from_widths p k (fields.Byte n) h = byte_widths k n h
from_widths p k (fields.Word n) h = word_widths p k n h
from_widths p k (fields.TwoWords m n) h = two_words_widths k m n
from_widths p k (fields.Address r m) h = addressed_widths p k r m
from_widths p k (fields.AddressByte r m n) h = addressed_byte_widths p k r m n h.2
from_widths p k (fields.AddressWord r m n) h = addressed_word_widths p k r m n h.2
from_widths p k (fields.Unary w r m) h = unary_widths p k w r m
from_widths p k (fields.TestByte m n) h = test_byte_widths p k m n
from_widths p k (fields.TestWord m n) h = test_word_widths p k m n

form_widths : (f : Form) → FieldsFit f.fields → WidthsIn (instruction_of f)
unfolding instruction_of
form_widths f h = either (repeats f.prefixes && not (is_string f.opcode)) None (instruction_from f.prefixes f.opcode f.fields) tt (from_widths f.prefixes f.opcode f.fields h)

pub decoded_has_widths : DecodedHasWidths
decoded_has_widths bytes n length small e =
    let spelt = (is_decoded_spells bytes n length small e).0 in
    subst WidthsIn spelt.says (form_widths spelt.form spelt.fits.fits)
