-- How many bytes of a ROM an instruction takes at most.
use Rattle.std.specs.Prelude.{ℕ, ◌+◌, if◌then◌else◌, List, [], ◌∷◌}
use Rattle.word86.specs.declared.width.Width.{Width}
use Rattle.word86.specs.declared.width.Width.TheVariants as widths
use Rattle.word86.specs.declared.operation.BinaryOperation.{BinaryOperation}
use Rattle.word86.specs.declared.operation.BinaryOperation.TheVariants as binary
use Rattle.icode.specs.declared.instruction.Instruction.{Instruction}
use Rattle.icode.specs.declared.instruction.Instruction.TheVariants as op
use Rattle.icode.specs.declared.instruction.Test.{Test}
use Rattle.icode.specs.declared.instruction.Test.TheVariants as test
use Rattle.icode.specs.declared.instruction.LowByte.{LowByte}
use Rattle.icode.specs.declared.instruction.LowByte.TheVariants as lows
use Rattle.icode.specs.declared.instruction.High.{High}
use Rattle.icode.specs.declared.instruction.High.TheVariants as highs
use Rattle.icode.specs.declared.instruction.Right.{Right}
use Rattle.icode.specs.declared.instruction.Right.TheVariants as rights
use Rattle.icode.specs.Registers.{is_direct}

-- a value of this width in the accumulator
abbrev pub room_of_width : Width → ℕ
room_of_width widths.Byte = 2
room_of_width widths.Word = 0

-- an operator on two registers
abbrev pub room_of_operator : BinaryOperation → Width → ℕ
room_of_operator binary.Multiply width = 2 + room_of_width width
room_of_operator binary.Divide width = 5
room_of_operator binary.Modulo width = 6
room_of_operator binary.Add width = 2 + room_of_width width
room_of_operator binary.Subtract width = 2 + room_of_width width
room_of_operator binary.Equal width = 9
room_of_operator binary.NotEqual width = 11
room_of_operator binary.Less width = 6
room_of_operator binary.LessEqual width = 8
room_of_operator binary.Greater width = 6
room_of_operator binary.GreaterEqual width = 8
room_of_operator binary.And width = 2
room_of_operator binary.Or width = 2
room_of_operator binary.ExclusiveOr width = 2
room_of_operator binary.ShiftLeft width = 2 + room_of_width width
room_of_operator binary.ShiftRight width = 2 + room_of_width width
room_of_operator binary.RotateLeft width = 2 + room_of_width width
room_of_operator binary.RotateRight width = 2 + room_of_width width
room_of_operator binary.DivideSigned width = 3
room_of_operator binary.ModuloSigned width = 4
-- two sign bits are turned
room_of_operator binary.LessSigned width = 13
room_of_operator binary.LessEqualSigned width = 15
room_of_operator binary.GreaterSigned width = 13
room_of_operator binary.GreaterEqualSigned width = 15

abbrev pub room_of_constant : BinaryOperation → Width → ℕ
room_of_constant o width = (if is_direct o then 1 else 3) + room_of_operator o width

abbrev pub room_of_read : Width → BinaryOperation → Width → ℕ
room_of_read widths.Byte o width = 7 + room_of_operator o width
room_of_read widths.Word o width = (if is_direct o then 3 else 5) + room_of_operator o width

-- bytes that stay or become 0
abbrev pub room_of_high : High → ℕ
room_of_high highs.Kept = 0
room_of_high highs.Cleared = 2

abbrev pub room_of_right : Right → ℕ
room_of_right (rights.Constant k) = 2
room_of_right (rights.Plain x) = 5
room_of_right rights.Top = 4

abbrev pub room_of_low : LowByte → ℕ
room_of_low (lows.Constant k) = 2
room_of_low (lows.Load x) = 4
room_of_low (lows.LoadAt x) = 7
room_of_low lows.LoadThere = 4
room_of_low lows.Receive = 3
room_of_low (lows.ReceiveFrom port) = 4
room_of_low lows.High = 2
room_of_low (lows.Operate o x) = room_of_right x

-- a jump that is too far for a short one
abbrev pub room_of_test : Test → ℕ
room_of_test test.Odd = 7
room_of_test (test.Constant o k) = 8
room_of_test (test.Plain o widths.Byte x) = 14
room_of_test (test.Plain o widths.Word x) = 10
room_of_test (test.Top o) = 8
room_of_test (test.Low o x) = 5 + room_of_right x
room_of_test (test.Named o widths.Byte x k) = 11
room_of_test (test.Named o widths.Word x k) = 12
room_of_test (test.OddNamed x) = 11

abbrev pub room_of : Instruction → ℕ
room_of (op.Constant k) = 3
room_of (op.Locate x) = 3
room_of (op.LocateAt x) = 3
room_of (op.Load width x) = 4 + room_of_width width
room_of (op.LoadAt width x) = 6 + room_of_width width
room_of (op.LoadThere width) = 3 + room_of_width width
room_of (op.Low low high) = room_of_low low + room_of_high high
room_of op.Push = 1
room_of (op.Pick n) = 6
room_of (op.Drop n) = 4
room_of (op.Unary o width) = 4
room_of (op.Binary o width) = 2 + room_of_operator o width
room_of (op.BinaryConstant o width k) = room_of_constant o width
room_of (op.BinaryPlain o width read x) = room_of_read read o width
room_of (op.Store width x) = 4
room_of (op.StoreAt width x) = 7
room_of (op.StoreThere width) = 4
room_of (op.StoreTop width x) = 6
room_of (op.StoreConstantAt width x k) = 9
room_of (op.Send width) = 3
room_of (op.SendTo width port) = 4
room_of (op.Receive width) = 2 + room_of_width width
room_of (op.ReceiveFrom width port) = 4 + room_of_width width
room_of (op.Ahead n) = 3
room_of (op.AheadUnless t n) = room_of_test t
room_of (op.Back n) = 3
room_of (op.BackUnless t n) = room_of_test t
room_of (op.Next width x s n) = 12
room_of (op.Switch n) = 17
room_of (op.Case n) = 2
room_of (op.Invoke q) = 3
room_of op.Leave = 1
room_of op.Enable = 2
room_of op.Disable = 1
room_of op.Halt = 2
-- all registers are given back
room_of op.Finish = 6

abbrev pub room_in : List Instruction → ℕ
room_in [] = 0
room_in (x ∷ xs) = room_of x + room_in xs
