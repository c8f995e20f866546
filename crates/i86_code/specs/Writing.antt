-- The form that is written for each instruction, and what makes one form better than another.
use Rattle.std.specs.Prelude.{ℕ, Bool, true, false, not, ◌+◌, ◌*◌, ◌%◌, ◌≤◌, ◌==◌, ◌≡◌, ◌&&◌, ◌||◌, nat_lt, nat_le, if◌then◌else◌, Some, List, length}
use Rattle.word86.specs.declared.width.Width.{Width}
use Rattle.word86.specs.declared.width.Width.TheVariants as widths
use Rattle.i86_table.specs.declared.registers.Register16.{Register16}
use Rattle.i86_table.specs.declared.registers.Register16.TheVariants.{Ax}
use Rattle.i86_table.specs.declared.registers.Register8.{Register8}
use Rattle.i86_table.specs.declared.registers.Register8.TheVariants.{Al}
use Rattle.i86_table.specs.declared.registers.Segment.{Segment}
use Rattle.i86_table.specs.declared.registers.Segment.TheVariants as segments
use Rattle.i86_table.specs.declared.instruction.AluOperation.{AluOperation}
use Rattle.i86_table.specs.declared.instruction.UnaryOperation.{UnaryOperation}
use Rattle.i86_table.specs.declared.instruction.UnaryOperation.TheVariants.{Not, Neg, Inc, Dec}
use Rattle.i86_table.specs.declared.instruction.ShiftOperation.{ShiftOperation}
use Rattle.i86_table.specs.declared.instruction.ShiftOperation.TheVariants as shifts
use Rattle.i86_table.specs.declared.instruction.Signedness.{Signedness}
use Rattle.i86_table.specs.declared.instruction.Signedness.TheVariants.{Unsigned, Signed}
use Rattle.i86_table.specs.declared.instruction.Base.{Base}
use Rattle.i86_table.specs.declared.instruction.Base.TheVariants as bases
use Rattle.i86_table.specs.declared.instruction.Address.{Address}
use Rattle.i86_table.specs.declared.instruction.Address.TheVariants as addresses
use Rattle.i86_table.specs.declared.instruction.Memory.{Memory}
use Rattle.i86_table.specs.declared.instruction.RmOperand.{RmOperand}
use Rattle.i86_table.specs.declared.instruction.RmOperand.TheVariants as rm
use Rattle.i86_table.specs.declared.instruction.Operands.{Operands}
use Rattle.i86_table.specs.declared.instruction.Operands.TheVariants.{FromRegister, FromMemory, Immediate}
use Rattle.i86_table.specs.declared.instruction.TestMask.{TestMask}
use Rattle.i86_table.specs.declared.instruction.TestMask.TheVariants as masks
use Rattle.i86_table.specs.declared.instruction.Port.{Port}
use Rattle.i86_table.specs.declared.instruction.Port.TheVariants as ports
use Rattle.i86_table.specs.declared.instruction.Repeat.{Repeat}
use Rattle.i86_table.specs.declared.instruction.Repeat.TheVariants.{Once, WhileCx}
use Rattle.i86_table.specs.declared.instruction.Instr.{Instr}
use Rattle.i86_table.specs.declared.instruction.Instr.TheVariants as i
use Rattle.i86_table.specs.Numbers.{byte_register_code, word_register_code, segment_code}
use Rattle.i86_table.specs.State.{loadable}
use Rattle.i86_table.specs.Arithmetic.{number_of}
use Rattle.i86_code.specs.declared.form.Opcode.{Opcode}
use Rattle.i86_code.specs.declared.form.Opcode.TheVariants as op
use Rattle.i86_code.specs.declared.form.Fields.{Fields}
use Rattle.i86_code.specs.declared.form.Fields.TheVariants as fields
use Rattle.i86_code.specs.declared.form.Prefixes.{Prefixes}
use Rattle.i86_code.specs.declared.form.Prefixes.TheVariants as prefixes
use Rattle.i86_code.specs.declared.form.RegisterOrMemory.{RegisterOrMemory}
use Rattle.i86_code.specs.declared.form.RegisterOrMemory.TheVariants.{Register, Indirect, Direct, Near, Far}
use Rattle.i86_code.specs.declared.form.Form.{Form}
use Rattle.i86_code.specs.Forms.{form_bytes, IsForm, operation_code}
use Rattle.i86_code.specs.Instructions.{usual_segment, is_short, instruction_of}

-- ---- which form is better

-- between two registers the target stands in the register field, and XCHG has the lower number there
abbrev pub is_turned : Opcode → ℕ → ℕ → Bool
is_turned (op.AluToPlace o w) r code = true
is_turned (op.MoveToPlace w) r code = true
is_turned (op.Exchange w) r code = nat_lt code r
is_turned k r code = false

abbrev pub is_turned_address : Opcode → ℕ → RegisterOrMemory → Bool
is_turned_address k r (Register code) = is_turned k r code
is_turned_address k r (Indirect base) = false
is_turned_address k r (Direct offset) = false
is_turned_address k r (Near base d) = false
is_turned_address k r (Far base d) = false

abbrev pub is_alu_short : Opcode → Bool
is_alu_short op.AluShort = true
is_alu_short k = false

abbrev pub is_turned_form : Opcode → Fields → Bool
is_turned_form k fields.Nothing = false
is_turned_form k (fields.Byte n) = false
is_turned_form k (fields.Word n) = false
is_turned_form k (fields.TwoWords m n) = false
is_turned_form k (fields.Address r p) = is_turned_address k r p
is_turned_form k (fields.AddressByte r p n) = is_alu_short k
is_turned_form k (fields.AddressWord r p n) = false
is_turned_form k (fields.Unary w r p) = false
is_turned_form k (fields.TestByte p n) = false
is_turned_form k (fields.TestWord p n) = false

-- F3 stands before the opcode, after the segment prefix
abbrev pub is_repeat_first : Prefixes → Bool
is_repeat_first prefixes.Nothing = false
is_repeat_first (prefixes.Override s) = false
is_repeat_first prefixes.Repeat = false
is_repeat_first (prefixes.OverrideRepeat s) = false
is_repeat_first (prefixes.RepeatOverride s) = true

-- of equally long forms these come second: a segment prefix after F3, the source in the register field, 83H where the accumulator's
-- form is as short
abbrev pub is_second : Form → Bool
is_second f = is_repeat_first f.prefixes || is_turned_form f.opcode f.fields

-- a form is better than a longer one, and of equally long ones than one that comes second
abbrev pub cost : Form → ℕ
cost f = 2 * length (form_bytes f) + number_of (is_second f)

-- no form of the instruction is better than these bytes
pub record WritesBest (bytes : List ℕ) (instruction : Instr) : Type 0 where
  pub form : Form
  pub fits : IsForm form
  pub spelling : bytes ≡ form_bytes form
  pub says : instruction_of form ≡ Some instruction
  pub best : (other : Form) → IsForm other → instruction_of other ≡ Some instruction → cost form ≤ cost other

-- ---- prefixes and operands

-- no prefix for the usual segment
abbrev pub prefix_for : Segment → Segment → Prefixes
prefix_for segments.Ds segments.Ds = prefixes.Nothing
prefix_for segments.Ss segments.Ss = prefixes.Nothing
prefix_for _ s = prefixes.Override s

abbrev pub prefix_at : Segment → Address → Prefixes
prefix_at s (addresses.Direct offset) = prefix_for segments.Ds s
prefix_at s (addresses.Based base d) = prefix_for (usual_segment base) s

abbrev pub prefix_of : {R : Type 0} → RmOperand R → Prefixes
prefix_of (rm.Register r) = prefixes.Nothing
prefix_of (rm.Memory m) = prefix_at m.segment m.address

-- a displacement that is a sign-extended byte
abbrev pub is_near : ℕ → Bool
is_near d = nat_lt d 128 || nat_le 65408 d

abbrev pub is_bp : Base → Bool
is_bp bases.Bp = true
is_bp _ = false

-- the shortest displacement that holds it; [BP] alone has none of no length
unfoldable pub based_form : Base → ℕ → RegisterOrMemory
based_form base d = if d == 0 && not (is_bp base) then Indirect base else if is_near d then Near base (d % 256) else Far base d

abbrev pub address_form : Address → RegisterOrMemory
address_form (addresses.Direct offset) = Direct offset
address_form (addresses.Based base d) = based_form base d

abbrev pub place_form : {R : Type 0} → (R → ℕ) → RmOperand R → RegisterOrMemory
place_form code (rm.Register r) = Register (code r)
place_form code (rm.Memory m) = address_form m.address

-- ---- forms by what follows the opcode

abbrev pub plain : Opcode → Fields → Form
plain k f = record { prefixes = prefixes.Nothing; opcode = k; fields = f }

abbrev pub addressed : {R : Type 0} → (R → ℕ) → Opcode → ℕ → RmOperand R → Form
addressed code k r p = record { prefixes = prefix_of p; opcode = k; fields = fields.Address r (place_form code p) }

abbrev pub with_memory : Opcode → ℕ → Memory → Form
with_memory k r m = record { prefixes = prefix_at m.segment m.address; opcode = k; fields = fields.Address r (address_form m.address) }

abbrev pub with_byte : {R : Type 0} → (R → ℕ) → Opcode → ℕ → RmOperand R → ℕ → Form
with_byte code k r p n = record { prefixes = prefix_of p; opcode = k; fields = fields.AddressByte r (place_form code p) n }

abbrev pub with_word : Opcode → ℕ → RmOperand Register16 → ℕ → Form
with_word k r p n = record { prefixes = prefix_of p; opcode = k; fields = fields.AddressWord r (place_form word_register_code p) n }

abbrev pub in_group : {R : Type 0} → (R → ℕ) → Width → ℕ → RmOperand R → Form
in_group code w r p = record { prefixes = prefix_of p; opcode = op.UnaryGroup w; fields = fields.Unary w r (place_form code p) }

-- between two registers the target is in the register field
abbrev pub from_register : {R : Type 0} → (R → ℕ) → Opcode → Opcode → RmOperand R → R → Form
from_register code memory_opcode register_opcode (rm.Register a) b = plain register_opcode (fields.Address (code a) (Register (code b)))
from_register code memory_opcode register_opcode (rm.Memory m) b = with_memory memory_opcode (code b) m

abbrev pub is_al : Register8 → Bool
is_al Al = true
is_al _ = false

abbrev pub is_ax : Register16 → Bool
is_ax Ax = true
is_ax _ = false

abbrev pub at_register : {R : Type 0} → (R → Bool) → RmOperand R → Bool
at_register is (rm.Register r) = is r
at_register is (rm.Memory m) = false

-- the accumulator has a form of its own for a direct address
abbrev pub accumulator_form : Bool → Opcode → Form → Segment → Address → Form
accumulator_form false k other s a = other
accumulator_form true k other s (addresses.Direct offset) = record { prefixes = prefix_for segments.Ds s; opcode = k; fields = fields.Word offset }
accumulator_form true k other s (addresses.Based base d) = other

-- ---- forms by instruction

-- 83H where a sign-extended byte will do
abbrev pub alu_immediate_of : AluOperation → RmOperand Register16 → ℕ → Form
alu_immediate_of o p n =
    if is_short (operation_code o) && is_near n then with_byte word_register_code op.AluShort (operation_code o) p (n % 256)
    else with_word (op.AluImmediate widths.Word) (operation_code o) p n

unfoldable pub alu_byte_of : AluOperation → Operands Register8 ℕ → Form
alu_byte_of o (FromRegister p r) = from_register byte_register_code (op.AluToPlace o widths.Byte) (op.AluToRegister o widths.Byte) p r
alu_byte_of o (FromMemory r m) = with_memory (op.AluToRegister o widths.Byte) (byte_register_code r) m
alu_byte_of o (Immediate p n) =
    if at_register is_al p then plain (op.AluAccumulator o widths.Byte) (fields.Byte n)
    else with_byte byte_register_code (op.AluImmediate widths.Byte) (operation_code o) p n

unfoldable pub alu_word_of : AluOperation → Operands Register16 ℕ → Form
alu_word_of o (FromRegister p r) = from_register word_register_code (op.AluToPlace o widths.Word) (op.AluToRegister o widths.Word) p r
alu_word_of o (FromMemory r m) = with_memory (op.AluToRegister o widths.Word) (word_register_code r) m
alu_word_of o (Immediate p n) = if at_register is_ax p then plain (op.AluAccumulator o widths.Word) (fields.Word n) else alu_immediate_of o p n

unfoldable pub move_byte_of : Operands Register8 ℕ → Form
move_byte_of (FromRegister (rm.Register a) b) = plain (op.MoveToRegister widths.Byte) (fields.Address (byte_register_code a) (Register (byte_register_code b)))
move_byte_of (FromRegister (rm.Memory m) r) = accumulator_form (is_al r) (op.MoveToDirect widths.Byte) (with_memory (op.MoveToPlace widths.Byte) (byte_register_code r) m) m.segment m.address
move_byte_of (FromMemory r m) = accumulator_form (is_al r) (op.MoveFromDirect widths.Byte) (with_memory (op.MoveToRegister widths.Byte) (byte_register_code r) m) m.segment m.address
move_byte_of (Immediate (rm.Register r) n) = plain (op.MoveRegisterByte r) (fields.Byte n)
move_byte_of (Immediate (rm.Memory m) n) = with_byte byte_register_code (op.MoveImmediate widths.Byte) 0 (rm.Memory m) n

unfoldable pub move_word_of : Operands Register16 ℕ → Form
move_word_of (FromRegister (rm.Register a) b) = plain (op.MoveToRegister widths.Word) (fields.Address (word_register_code a) (Register (word_register_code b)))
move_word_of (FromRegister (rm.Memory m) r) = accumulator_form (is_ax r) (op.MoveToDirect widths.Word) (with_memory (op.MoveToPlace widths.Word) (word_register_code r) m) m.segment m.address
move_word_of (FromMemory r m) = accumulator_form (is_ax r) (op.MoveFromDirect widths.Word) (with_memory (op.MoveToRegister widths.Word) (word_register_code r) m) m.segment m.address
move_word_of (Immediate (rm.Register r) n) = plain (op.MoveRegisterWord r) (fields.Word n)
move_word_of (Immediate (rm.Memory m) n) = with_word (op.MoveImmediate widths.Word) 0 (rm.Memory m) n

abbrev pub test_byte_of : RmOperand Register8 → TestMask Register8 ℕ → Form
test_byte_of p (masks.Register r) = addressed byte_register_code (op.Test widths.Byte) (byte_register_code r) p
test_byte_of p (masks.Immediate n) =
    if at_register is_al p then plain (op.TestAccumulator widths.Byte) (fields.Byte n)
    else record { prefixes = prefix_of p; opcode = op.UnaryGroup widths.Byte; fields = fields.TestByte (place_form byte_register_code p) n }

abbrev pub test_word_of : RmOperand Register16 → TestMask Register16 ℕ → Form
test_word_of p (masks.Register r) = addressed word_register_code (op.Test widths.Word) (word_register_code r) p
test_word_of p (masks.Immediate n) =
    if at_register is_ax p then plain (op.TestAccumulator widths.Word) (fields.Word n)
    else record { prefixes = prefix_of p; opcode = op.UnaryGroup widths.Word; fields = fields.TestWord (place_form word_register_code p) n }

abbrev pub unary_byte_of : UnaryOperation → RmOperand Register8 → Form
unary_byte_of Not p = in_group byte_register_code widths.Byte 2 p
unary_byte_of Neg p = in_group byte_register_code widths.Byte 3 p
unary_byte_of Inc p = addressed byte_register_code (op.StepGroup widths.Byte) 0 p
unary_byte_of Dec p = addressed byte_register_code (op.StepGroup widths.Byte) 1 p

-- a word register has a form of its own
abbrev pub register_or : (Register16 → Opcode) → Opcode → ℕ → RmOperand Register16 → Form
register_or short k r (rm.Register x) = plain (short x) fields.Nothing
register_or short k r (rm.Memory m) = with_memory k r m

abbrev pub unary_word_of : UnaryOperation → RmOperand Register16 → Form
unary_word_of Not p = in_group word_register_code widths.Word 2 p
unary_word_of Neg p = in_group word_register_code widths.Word 3 p
unary_word_of Inc p = register_or (λ r. op.Increment r) (op.StepGroup widths.Word) 0 p
unary_word_of Dec p = register_or (λ r. op.Decrement r) (op.StepGroup widths.Word) 1 p

abbrev pub push_of : RmOperand Register16 → Form
push_of p = register_or (λ r. op.Push r) (op.StepGroup widths.Word) 6 p

abbrev pub pop_of : RmOperand Register16 → Form
pop_of p = register_or (λ r. op.Pop r) op.PopPlace 0 p

abbrev pub multiply_code : Signedness → ℕ
multiply_code Unsigned = 4
multiply_code Signed = 5

abbrev pub divide_code : Signedness → ℕ
divide_code Unsigned = 6
divide_code Signed = 7

abbrev pub shift_code : ShiftOperation → ℕ
shift_code shifts.Rol = 0
shift_code shifts.Ror = 1
shift_code shifts.Shl = 4
shift_code shifts.Shr = 5
shift_code shifts.Sar = 7

-- AX and another register have a form of their own; AX with AX has not, since its byte is NOP's
abbrev pub exchange_words_of : Register16 → Register16 → Form
exchange_words_of a b =
    if is_ax a && not (is_ax b) then plain (op.ExchangeAccumulator b) fields.Nothing
    else plain (op.Exchange widths.Word) (fields.Address (word_register_code a) (Register (word_register_code b)))

-- the segment prefix first
abbrev pub string_prefixes : Segment → Repeat → Prefixes
string_prefixes segments.Ds Once = prefixes.Nothing
string_prefixes segments.Ds WhileCx = prefixes.Repeat
string_prefixes s Once = prefixes.Override s
string_prefixes s WhileCx = prefixes.OverrideRepeat s

abbrev pub in_of : Width → Port → Form
in_of w (ports.Fixed n) = plain (op.InFixed w) (fields.Byte n)
in_of w ports.Dx = plain (op.InDx w) fields.Nothing

abbrev pub out_of : Width → Port → Form
out_of w (ports.Fixed n) = plain (op.OutFixed w) (fields.Byte n)
out_of w ports.Dx = plain (op.OutDx w) fields.Nothing

-- the form that is written
unfoldable pub form_of : Instr → Form
form_of i.Nop = plain (op.ExchangeAccumulator Ax) fields.Nothing
form_of (i.AluByte o x) = alu_byte_of o x
form_of (i.AluWord o x) = alu_word_of o x
form_of (i.UnaryByte o p) = unary_byte_of o p
form_of (i.UnaryWord o p) = unary_word_of o p
form_of (i.TestByte p x) = test_byte_of p x
form_of (i.TestWord p x) = test_word_of p x
form_of (i.ShiftByte s p c) = addressed byte_register_code (op.Shift widths.Byte c) (shift_code s) p
form_of (i.ShiftWord s p c) = addressed word_register_code (op.Shift widths.Word c) (shift_code s) p
form_of (i.MultiplyByte s p) = in_group byte_register_code widths.Byte (multiply_code s) p
form_of (i.MultiplyWord s p) = in_group word_register_code widths.Word (multiply_code s) p
form_of (i.DivideByte s p) = in_group byte_register_code widths.Byte (divide_code s) p
form_of (i.DivideWord s p) = in_group word_register_code widths.Word (divide_code s) p
form_of i.ConvertByte = plain op.ConvertByte fields.Nothing
form_of i.ConvertWord = plain op.ConvertWord fields.Nothing
form_of (i.MoveByte x) = move_byte_of x
form_of (i.MoveWord x) = move_word_of x
form_of (i.MoveFromSegment p s) = addressed word_register_code op.MoveFromSegment (segment_code s) p
form_of (i.MoveToSegment s p) = addressed word_register_code op.MoveToSegment (segment_code (loadable s)) p
form_of (i.LoadAddress r a) = plain op.LoadAddress (fields.Address (word_register_code r) (address_form a))
form_of (i.ExchangeBytes p) = plain (op.Exchange widths.Byte) (fields.Address (byte_register_code p.first) (Register (byte_register_code p.second)))
form_of (i.ExchangeWords p) = exchange_words_of p.first p.second
form_of (i.ExchangeMemoryByte r m) = with_memory (op.Exchange widths.Byte) (byte_register_code r) m
form_of (i.ExchangeMemoryWord r m) = with_memory (op.Exchange widths.Word) (word_register_code r) m
form_of (i.Push p) = push_of p
form_of (i.Pop p) = pop_of p
form_of (i.PushSegment s) = plain (op.PushSegment s) fields.Nothing
form_of (i.PopSegment s) = plain (op.PopSegment s) fields.Nothing
form_of i.PushFlags = plain op.PushFlags fields.Nothing
form_of i.PopFlags = plain op.PopFlags fields.Nothing
form_of (i.MoveString w s repeat) = record { prefixes = string_prefixes s repeat; opcode = op.MoveString w; fields = fields.Nothing }
form_of (i.StoreString w repeat) = record { prefixes = string_prefixes segments.Ds repeat; opcode = op.StoreString w; fields = fields.Nothing }
form_of (i.In w p) = in_of w p
form_of (i.Out w p) = out_of w p
form_of (i.JumpIf c n) = plain (op.JumpIf c) (fields.Byte n)
form_of (i.Loop n) = plain op.Loop (fields.Byte n)
form_of (i.JumpIfCxZero n) = plain op.JumpIfCxZero (fields.Byte n)
form_of (i.JumpShort n) = plain op.JumpShort (fields.Byte n)
form_of (i.Jump n) = plain op.Jump (fields.Word n)
form_of (i.JumpTo p) = addressed word_register_code (op.StepGroup widths.Word) 4 p
form_of (i.JumpFar m n) = plain op.JumpFar (fields.TwoWords m n)
form_of (i.Call n) = plain op.Call (fields.Word n)
form_of (i.CallTo p) = addressed word_register_code (op.StepGroup widths.Word) 2 p
form_of i.Return = plain op.Return fields.Nothing
form_of (i.ReturnDropping n) = plain op.ReturnDropping (fields.Word n)
form_of i.InterruptReturn = plain op.InterruptReturn fields.Nothing
form_of i.ComplementCarry = plain op.ComplementCarry fields.Nothing
form_of i.ClearCarry = plain op.ClearCarry fields.Nothing
form_of i.SetCarry = plain op.SetCarry fields.Nothing
form_of i.DisableInterrupts = plain op.DisableInterrupts fields.Nothing
form_of i.EnableInterrupts = plain op.EnableInterrupts fields.Nothing
form_of i.ClearDirection = plain op.ClearDirection fields.Nothing
form_of i.SetDirection = plain op.SetDirection fields.Nothing
form_of i.Halt = plain op.Halt fields.Nothing

-- the bytes that are written
abbrev pub bytes_of : Instr → List ℕ
bytes_of instruction = form_bytes (form_of instruction)
