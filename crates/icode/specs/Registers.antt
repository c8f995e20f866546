-- Which of the processor's registers the instructions of an instruction can change. They are named by what they serve for; none
-- changes any other register.
use Rattle.std.specs.Prelude.{ℕ, Bool, true, false, ◌||◌, nat_eq, nat_le, if◌then◌else◌}
use Rattle.word86.specs.declared.width.Width.{Width}
use Rattle.word86.specs.declared.width.Width.TheVariants as widths
use Rattle.word86.specs.declared.operation.BinaryOperation.{BinaryOperation}
use Rattle.word86.specs.declared.operation.BinaryOperation.TheVariants as binary
use Rattle.icode.specs.declared.instruction.Instruction.{Instruction}
use Rattle.icode.specs.declared.instruction.Instruction.TheVariants as op
use Rattle.icode.specs.declared.instruction.Test.{Test}
use Rattle.icode.specs.declared.instruction.Test.TheVariants as test
use Rattle.icode.specs.declared.instruction.LowByte.{LowByte}
use Rattle.icode.specs.declared.instruction.LowByte.TheVariants as lows
use Rattle.icode.specs.declared.instruction.Right.{Right}
use Rattle.icode.specs.declared.instruction.Right.TheVariants as rights
use Rattle.icode.specs.declared.registers.Registers.{Registers}

abbrev pub none : Registers
none = record { accumulator = false; right = false; high = false; address = false; frame = false }

abbrev pub just_accumulator : Registers
just_accumulator = record none { accumulator = true }

abbrev pub just_right : Registers
just_right = record none { right = true }

abbrev pub just_high : Registers
just_high = record none { high = true }

abbrev pub just_address : Registers
just_address = record none { address = true }

-- either one's
abbrev pub joined : Registers → Registers → Registers
joined x y = record { accumulator = x.accumulator || y.accumulator; right = x.right || y.right; high = x.high || y.high; address = x.address || y.address; frame = x.frame || y.frame }

-- an operator on the accumulator and the right operand: products and quotients have a high half
abbrev pub of_operator : BinaryOperation → Registers
of_operator binary.Multiply = record none { accumulator = true; right = true; high = true }
of_operator binary.Divide = record none { accumulator = true; right = true; high = true }
of_operator binary.Modulo = record none { accumulator = true; right = true; high = true }
of_operator binary.Add = record none { accumulator = true; right = true }
of_operator binary.Subtract = record none { accumulator = true; right = true }
of_operator binary.Equal = record none { accumulator = true; right = true }
of_operator binary.NotEqual = record none { accumulator = true; right = true }
of_operator binary.Less = record none { accumulator = true; right = true }
of_operator binary.LessEqual = record none { accumulator = true; right = true }
of_operator binary.Greater = record none { accumulator = true; right = true }
of_operator binary.GreaterEqual = record none { accumulator = true; right = true }
of_operator binary.And = record none { accumulator = true; right = true }
of_operator binary.Or = record none { accumulator = true; right = true }
of_operator binary.ExclusiveOr = record none { accumulator = true; right = true }
of_operator binary.ShiftLeft = record none { accumulator = true; right = true }
of_operator binary.ShiftRight = record none { accumulator = true; right = true }
of_operator binary.RotateLeft = record none { accumulator = true; right = true }
of_operator binary.RotateRight = record none { accumulator = true; right = true }
of_operator binary.DivideSigned = record none { accumulator = true; right = true; high = true }
of_operator binary.ModuloSigned = record none { accumulator = true; right = true; high = true }
of_operator binary.LessSigned = record none { accumulator = true; right = true }
of_operator binary.LessEqualSigned = record none { accumulator = true; right = true }
of_operator binary.GreaterSigned = record none { accumulator = true; right = true }
of_operator binary.GreaterEqualSigned = record none { accumulator = true; right = true }

-- these need no right operand where it is a constant or a word in memory
abbrev pub is_direct : BinaryOperation → Bool
is_direct binary.Multiply = false
is_direct binary.Divide = false
is_direct binary.Modulo = false
is_direct binary.Add = true
is_direct binary.Subtract = true
is_direct binary.Equal = false
is_direct binary.NotEqual = false
is_direct binary.Less = false
is_direct binary.LessEqual = false
is_direct binary.Greater = false
is_direct binary.GreaterEqual = false
is_direct binary.And = true
is_direct binary.Or = true
is_direct binary.ExclusiveOr = true
is_direct binary.ShiftLeft = false
is_direct binary.ShiftRight = false
is_direct binary.RotateLeft = false
is_direct binary.RotateRight = false
is_direct binary.DivideSigned = false
is_direct binary.ModuloSigned = false
is_direct binary.LessSigned = false
is_direct binary.LessEqualSigned = false
is_direct binary.GreaterSigned = false
is_direct binary.GreaterEqualSigned = false

abbrev pub of_direct : BinaryOperation → Registers
of_direct o = if is_direct o then just_accumulator else of_operator o

-- the right operand is read with this width
abbrev pub of_read : Width → BinaryOperation → Registers
of_read widths.Byte o = of_operator o
of_read widths.Word o = of_direct o

-- a port from 256 on does not stand in the instruction
abbrev pub of_port : ℕ → Registers
of_port port = if nat_le 256 port then just_high else none

-- the left operand comes from the stack, and the right one goes to its register
abbrev pub of_right : Right → Registers
of_right (rights.Constant k) = just_accumulator
of_right (rights.Plain x) = just_accumulator
of_right rights.Top = record none { accumulator = true; right = true }

abbrev pub of_low : LowByte → Registers
of_low (lows.Constant k) = just_accumulator
of_low (lows.Load x) = just_accumulator
of_low (lows.LoadAt x) = record none { accumulator = true; address = true }
of_low lows.LoadThere = record none { accumulator = true; address = true }
of_low lows.Receive = record none { accumulator = true; high = true }
of_low (lows.ReceiveFrom port) = joined just_accumulator (of_port port)
of_low lows.High = just_accumulator
of_low (lows.Operate o x) = of_right x

abbrev pub of_low_test : Right → Registers
of_low_test (rights.Constant k) = none
of_low_test (rights.Plain x) = none
of_low_test rights.Top = just_right

abbrev pub of_test : Test → Registers
of_test test.Odd = none
of_test (test.Constant o k) = none
of_test (test.Plain o widths.Byte x) = just_right
of_test (test.Plain o widths.Word x) = none
of_test (test.Top o) = just_right
of_test (test.Low o x) = of_low_test x
of_test (test.Named o read x k) = none
of_test (test.OddNamed x) = none

abbrev pub of_drop : ℕ → Registers
of_drop n = if nat_eq n 1 then just_right else none

abbrev pub changes : Instruction → Registers
changes (op.Constant k) = just_accumulator
changes (op.Locate x) = just_accumulator
changes (op.LocateAt x) = just_accumulator
changes (op.Load width x) = just_accumulator
changes (op.LoadAt width x) = record none { accumulator = true; address = true }
changes (op.LoadThere width) = record none { accumulator = true; address = true }
changes (op.Low low high) = of_low low
changes op.Push = none
changes (op.Pick n) = record none { accumulator = true; frame = true }
changes (op.Drop n) = of_drop n
changes (op.Unary o width) = just_accumulator
changes (op.Binary o width) = of_operator o
changes (op.BinaryConstant o width k) = of_direct o
changes (op.BinaryPlain o width read x) = of_read read o
changes (op.Store width x) = none
changes (op.StoreAt width x) = record none { accumulator = true; address = true }
changes (op.StoreThere width) = record none { accumulator = true; address = true }
changes (op.StoreTop width x) = just_right
changes (op.StoreConstantAt width x k) = record none { accumulator = true; address = true }
changes (op.Send width) = record none { accumulator = true; high = true }
changes (op.SendTo width port) = of_port port
changes (op.Receive width) = record none { accumulator = true; high = true }
changes (op.ReceiveFrom width port) = joined just_accumulator (of_port port)
changes (op.Ahead n) = none
changes (op.AheadUnless t n) = of_test t
changes (op.Back n) = none
changes (op.BackUnless t n) = of_test t
changes (op.Next width x s n) = just_accumulator
changes (op.Switch n) = just_address
changes (op.Case n) = none
changes (op.Invoke q) = none
changes op.Leave = none
changes op.Enable = none
changes op.Disable = none
changes op.Halt = none
changes op.Finish = none
