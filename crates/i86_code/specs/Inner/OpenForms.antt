-- The forms of instructions with a word that is known only later.
use Rattle.std.specs.Prelude.{ℕ, ◌%◌, ◌^◌, ◌<◌, if◌then◌else◌}
use Rattle.word86.specs.declared.width.Width.TheVariants as widths
use Rattle.i86_table.specs.declared.registers.Register16.{Register16}
use Rattle.i86_table.specs.declared.registers.Register8.{Register8}
use Rattle.i86_table.specs.declared.instruction.AluOperation.TheVariants.{Cmp}
use Rattle.i86_table.specs.declared.instruction.Address.{Address}
use Rattle.i86_table.specs.declared.instruction.Address.TheVariants as addresses
use Rattle.i86_table.specs.declared.instruction.Memory.{Memory}
use Rattle.i86_table.specs.declared.open.Use.{Use}
use Rattle.i86_table.specs.declared.open.Use.TheVariants.{Load, Store, Operate}
use Rattle.i86_table.specs.declared.open.Open.{Open}
use Rattle.i86_table.specs.declared.open.Open.TheVariants as opens
use Rattle.i86_table.specs.Numbers.{byte_register_code, word_register_code}
use Rattle.i86_table.specs.Open.{spot_memory}
use Rattle.i86_code.specs.declared.form.Opcode.{Opcode}
use Rattle.i86_code.specs.declared.form.Opcode.TheVariants as op
use Rattle.i86_code.specs.declared.form.Fields.{Fields}
use Rattle.i86_code.specs.declared.form.Fields.TheVariants as fields
use Rattle.i86_code.specs.declared.form.RegisterOrMemory.{RegisterOrMemory}
use Rattle.i86_code.specs.declared.form.RegisterOrMemory.TheVariants.{Direct, Far}
use Rattle.i86_code.specs.declared.form.Form.{Form}
use Rattle.i86_code.specs.Forms.{operation_code}
use Rattle.i86_code.specs.Writing.{prefix_at, is_near, plain, is_al, is_ax, accumulator_form}

-- the spelling of an address that has a word for its number, however small it is
abbrev pub far_form : Address → RegisterOrMemory
far_form (addresses.Direct offset) = Direct offset
far_form (addresses.Based base d) = Far base d

abbrev pub in_memory : Opcode → Memory → Fields → Form
in_memory k m f = record { prefixes = prefix_at m.segment m.address; opcode = k; fields = f }

abbrev pub with_far : Opcode → ℕ → Memory → Form
with_far k r m = in_memory k m (fields.Address r (far_form m.address))

abbrev pub byte_form : Use → Register8 → Memory → Form
byte_form Load r m = accumulator_form (is_al r) (op.MoveFromDirect widths.Byte) (with_far (op.MoveToRegister widths.Byte) (byte_register_code r) m) m.segment m.address
byte_form Store r m = accumulator_form (is_al r) (op.MoveToDirect widths.Byte) (with_far (op.MoveToPlace widths.Byte) (byte_register_code r) m) m.segment m.address
byte_form (Operate o) r m = with_far (op.AluToRegister o widths.Byte) (byte_register_code r) m

abbrev pub word_form : Use → Register16 → Memory → Form
word_form Load r m = accumulator_form (is_ax r) (op.MoveFromDirect widths.Word) (with_far (op.MoveToRegister widths.Word) (word_register_code r) m) m.segment m.address
word_form Store r m = accumulator_form (is_ax r) (op.MoveToDirect widths.Word) (with_far (op.MoveToPlace widths.Word) (word_register_code r) m) m.segment m.address
word_form (Operate o) r m = with_far (op.AluToRegister o widths.Word) (word_register_code r) m

abbrev pub compare_byte_form : Memory → ℕ → Form
compare_byte_form m k = in_memory (op.AluImmediate widths.Byte) m (fields.AddressByte (operation_code Cmp) (far_form m.address) k)

-- 83H where the constant is a sign-extended byte
abbrev pub compare_word_form : Memory → ℕ → Form
compare_word_form m k =
    if is_near k then in_memory op.AluShort m (fields.AddressByte (operation_code Cmp) (far_form m.address) (k % 256))
    else in_memory (op.AluImmediate widths.Word) m (fields.AddressWord (operation_code Cmp) (far_form m.address) k)

abbrev pub test_byte_form : Memory → ℕ → Form
test_byte_form m k = in_memory (op.UnaryGroup widths.Byte) m (fields.TestByte (far_form m.address) k)

-- the form with this number
abbrev pub open_form : Open → ℕ → Form
open_form (opens.Number r) n = plain (op.MoveRegisterWord r) (fields.Word n)
open_form (opens.OperateAx o) n = plain (op.AluAccumulator o widths.Word) (fields.Word n)
open_form (opens.Byte u r s) n = byte_form u r (spot_memory s n)
open_form (opens.Word u r s) n = word_form u r (spot_memory s n)
open_form (opens.CompareByte s k) n = compare_byte_form (spot_memory s n) k
open_form (opens.CompareWord s k) n = compare_word_form (spot_memory s n) k
open_form (opens.TestByte s m) n = test_byte_form (spot_memory s n) m
open_form (opens.JumpTo s) n = with_far (op.StepGroup widths.Word) 4 (spot_memory s n)
open_form opens.Call n = plain op.Call (fields.Word n)
open_form opens.Jump n = plain op.Jump (fields.Word n)

-- a constant behind the word is one of its type
abbrev pub ConstantFits : Open → Type 0
ConstantFits (opens.Number r) = Unit {0}
ConstantFits (opens.OperateAx o) = Unit {0}
ConstantFits (opens.Byte u r s) = Unit {0}
ConstantFits (opens.Word u r s) = Unit {0}
ConstantFits (opens.CompareByte s k) = k < 2 ^ 8
ConstantFits (opens.CompareWord s k) = k < 2 ^ 16
ConstantFits (opens.TestByte s m) = m < 2 ^ 8
ConstantFits (opens.JumpTo s) = Unit {0}
ConstantFits opens.Call = Unit {0}
ConstantFits opens.Jump = Unit {0}
