-- The numbers of an instruction fit their types.
use Rattle.std.specs.Prelude.{ℕ, ◌^◌, ◌<◌}
use Rattle.i86_table.specs.declared.instruction.Address.{Address}
use Rattle.i86_table.specs.declared.instruction.Address.TheVariants as addresses
use Rattle.i86_table.specs.declared.instruction.RmOperand.{RmOperand}
use Rattle.i86_table.specs.declared.instruction.RmOperand.TheVariants as rm
use Rattle.i86_table.specs.declared.instruction.Operands.{Operands}
use Rattle.i86_table.specs.declared.instruction.Operands.TheVariants.{FromRegister, FromMemory, Immediate}
use Rattle.i86_table.specs.declared.instruction.TestMask.{TestMask}
use Rattle.i86_table.specs.declared.instruction.TestMask.TheVariants as masks
use Rattle.i86_table.specs.declared.instruction.Port.{Port}
use Rattle.i86_table.specs.declared.instruction.Port.TheVariants as ports
use Rattle.i86_table.specs.declared.instruction.Instr.{Instr}
use Rattle.i86_table.specs.declared.instruction.Instr.TheVariants as i

abbrev pub AddressFits : Address → Type 0
AddressFits (addresses.Direct offset) = offset < 2 ^ 16
AddressFits (addresses.Based base d) = d < 2 ^ 16

abbrev pub RmOperandFits : {R : Type 0} → RmOperand R → Type 0
RmOperandFits (rm.Register r) = Unit {0}
RmOperandFits (rm.Memory m) = AddressFits m.address

abbrev pub OperandsFit : {R : Type 0} → ℕ → Operands R ℕ → Type 0
OperandsFit size (FromRegister p r) = RmOperandFits p
OperandsFit size (FromMemory r m) = AddressFits m.address
OperandsFit size (Immediate p n) = RmOperandFits p × (n < size)

abbrev pub MaskFits : {R : Type 0} → ℕ → TestMask R ℕ → Type 0
MaskFits size (masks.Register r) = Unit {0}
MaskFits size (masks.Immediate n) = n < size

abbrev pub PortFits : Port → Type 0
PortFits (ports.Fixed n) = n < 2 ^ 8
PortFits ports.Dx = Unit {0}

-- each number is one of its type
abbrev pub InstrFits : Instr → Type 0
InstrFits i.Nop = Unit {0}
InstrFits (i.AluByte o x) = OperandsFit 256 x
InstrFits (i.AluWord o x) = OperandsFit 65536 x
InstrFits (i.UnaryByte o p) = RmOperandFits p
InstrFits (i.UnaryWord o p) = RmOperandFits p
InstrFits (i.TestByte p x) = RmOperandFits p × MaskFits 256 x
InstrFits (i.TestWord p x) = RmOperandFits p × MaskFits 65536 x
InstrFits (i.ShiftByte s p c) = RmOperandFits p
InstrFits (i.ShiftWord s p c) = RmOperandFits p
InstrFits (i.MultiplyByte s p) = RmOperandFits p
InstrFits (i.MultiplyWord s p) = RmOperandFits p
InstrFits (i.DivideByte s p) = RmOperandFits p
InstrFits (i.DivideWord s p) = RmOperandFits p
InstrFits i.ConvertByte = Unit {0}
InstrFits i.ConvertWord = Unit {0}
InstrFits (i.MoveByte x) = OperandsFit 256 x
InstrFits (i.MoveWord x) = OperandsFit 65536 x
InstrFits (i.MoveFromSegment p s) = RmOperandFits p
InstrFits (i.MoveToSegment s p) = RmOperandFits p
InstrFits (i.LoadAddress r a) = AddressFits a
InstrFits (i.ExchangeBytes p) = Unit {0}
InstrFits (i.ExchangeWords p) = Unit {0}
InstrFits (i.ExchangeMemoryByte r m) = AddressFits m.address
InstrFits (i.ExchangeMemoryWord r m) = AddressFits m.address
InstrFits (i.Push p) = RmOperandFits p
InstrFits (i.Pop p) = RmOperandFits p
InstrFits (i.PushSegment s) = Unit {0}
InstrFits (i.PopSegment s) = Unit {0}
InstrFits i.PushFlags = Unit {0}
InstrFits i.PopFlags = Unit {0}
InstrFits (i.MoveString w s repeat) = Unit {0}
InstrFits (i.StoreString w repeat) = Unit {0}
InstrFits (i.In w p) = PortFits p
InstrFits (i.Out w p) = PortFits p
InstrFits (i.JumpIf c n) = n < 2 ^ 8
InstrFits (i.Loop n) = n < 2 ^ 8
InstrFits (i.JumpIfCxZero n) = n < 2 ^ 8
InstrFits (i.JumpShort n) = n < 2 ^ 8
InstrFits (i.Jump n) = n < 2 ^ 16
InstrFits (i.JumpTo p) = RmOperandFits p
InstrFits (i.JumpFar m n) = (m < 2 ^ 16) × (n < 2 ^ 16)
InstrFits (i.Call n) = n < 2 ^ 16
InstrFits (i.CallTo p) = RmOperandFits p
InstrFits i.Return = Unit {0}
InstrFits (i.ReturnDropping n) = n < 2 ^ 16
InstrFits i.InterruptReturn = Unit {0}
InstrFits i.ComplementCarry = Unit {0}
InstrFits i.ClearCarry = Unit {0}
InstrFits i.SetCarry = Unit {0}
InstrFits i.DisableInterrupts = Unit {0}
InstrFits i.EnableInterrupts = Unit {0}
InstrFits i.ClearDirection = Unit {0}
InstrFits i.SetDirection = Unit {0}
InstrFits i.Halt = Unit {0}
