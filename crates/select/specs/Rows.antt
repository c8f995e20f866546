-- The steps of each instruction of the intermediate code. AX is the accumulator, the words lie on the stack; CX has an operator's
-- right operand, DX a port, BX an address, BP where the stack stands.
use Rattle.std.specs.Prelude.{ℕ, ◌+◌, ◌-◌, ◌*◌, ◌%◌, Bool, true, false, nat_eq, nat_le, if◌then◌else◌, List, [], ◌∷◌, ◌++◌, map, length, sum, take, Option, Some, None}
use Rattle.word86.specs.declared.width.Width.{Width}
use Rattle.word86.specs.declared.width.Width.TheVariants as widths
use Rattle.word86.specs.declared.operation.UnaryOperation.{UnaryOperation}
use Rattle.word86.specs.declared.operation.UnaryOperation.TheVariants as unary
use Rattle.word86.specs.declared.operation.BinaryOperation.{BinaryOperation}
use Rattle.word86.specs.declared.operation.BinaryOperation.TheVariants as binary
use Rattle.word86.specs.declared.place.Place.{Place}
use Rattle.word86.specs.declared.place.Place.TheVariants as place
use Rattle.word86.specs.Page.{page_begins}
use Rattle.i86_table.specs.declared.registers.Register16.{Register16}
use Rattle.i86_table.specs.declared.registers.Register16.TheVariants.{Ax, Bx, Cx, Dx, Bp, Sp}
use Rattle.i86_table.specs.declared.registers.Register8.{Register8}
use Rattle.i86_table.specs.declared.registers.Register8.TheVariants.{Al, Ah, Cl, Ch}
use Rattle.i86_table.specs.declared.registers.Segment.{Segment}
use Rattle.i86_table.specs.declared.registers.Segment.TheVariants as segments
use Rattle.i86_table.specs.declared.instruction.Memory.{Memory}
use Rattle.i86_table.specs.declared.instruction.Base.{Base}
use Rattle.i86_table.specs.declared.instruction.Base.TheVariants as bases
use Rattle.i86_table.specs.declared.instruction.Address.TheVariants.{Based}
use Rattle.i86_table.specs.declared.instruction.RmOperand.TheVariants as rm
use Rattle.i86_table.specs.declared.instruction.Operands.TheVariants.{FromRegister, FromMemory, Immediate}
use Rattle.i86_table.specs.declared.instruction.TestMask.TheVariants as masks
use Rattle.i86_table.specs.declared.instruction.Port.TheVariants as ports
use Rattle.i86_table.specs.declared.instruction.Count.{Count}
use Rattle.i86_table.specs.declared.instruction.Count.TheVariants as counts
use Rattle.i86_table.specs.declared.instruction.Condition.{Condition}
use Rattle.i86_table.specs.declared.instruction.Condition.TheVariants as conditions
use Rattle.i86_table.specs.declared.instruction.Signedness.TheVariants.{Unsigned, Signed}
use Rattle.i86_table.specs.declared.instruction.AluOperation.{AluOperation}
use Rattle.i86_table.specs.declared.instruction.AluOperation.TheVariants.{Add, Sub, Adc, Sbb, And, Or, Xor, Cmp}
use Rattle.i86_table.specs.declared.instruction.UnaryOperation as change
use Rattle.i86_table.specs.declared.instruction.UnaryOperation.TheVariants as changes
use Rattle.i86_table.specs.declared.instruction.ShiftOperation.{ShiftOperation}
use Rattle.i86_table.specs.declared.instruction.ShiftOperation.TheVariants as shifts
use Rattle.i86_table.specs.declared.instruction.Instr.{Instr}
use Rattle.i86_table.specs.declared.instruction.Instr.TheVariants as i
use Rattle.i86_table.specs.declared.open.Use.{Use}
use Rattle.i86_table.specs.declared.open.Use.TheVariants.{Load, Store, Operate}
use Rattle.i86_table.specs.declared.open.Spot.{Spot}
use Rattle.i86_table.specs.declared.open.Open.{Open}
use Rattle.i86_table.specs.declared.open.Open.TheVariants as opens
use Rattle.i86_table.specs.Open.{closed}
use Rattle.i86_table.specs.Pairs.{word_pair}
use Rattle.icode.specs.declared.instruction.Instruction.{Instruction}
use Rattle.icode.specs.declared.instruction.Instruction.TheVariants as op
use Rattle.icode.specs.declared.instruction.Relation.{Relation}
use Rattle.icode.specs.declared.instruction.Relation.TheVariants as relation
use Rattle.icode.specs.declared.instruction.Test.{Test}
use Rattle.icode.specs.declared.instruction.Test.TheVariants as test
use Rattle.icode.specs.declared.instruction.LowByte.{LowByte}
use Rattle.icode.specs.declared.instruction.LowByte.TheVariants as lows
use Rattle.icode.specs.declared.instruction.High.{High}
use Rattle.icode.specs.declared.instruction.High.TheVariants as highs
use Rattle.icode.specs.declared.instruction.Right.{Right}
use Rattle.icode.specs.declared.instruction.Right.TheVariants as rights
use Rattle.icode.specs.declared.instruction.Direct.{Direct}
use Rattle.icode.specs.declared.instruction.Direct.TheVariants as directs
use Rattle.icode.specs.declared.registers.Registers.{Registers}
use Rattle.icode.specs.Registers.{is_direct}
use Rattle.select.specs.declared.part.Kind.TheVariants.{Offset, Near}
use Rattle.select.specs.declared.part.Step.{Step}
use Rattle.select.specs.declared.part.Step.TheVariants.{Plain, Refer, AtStep, Word, Goto, GotoIf}

-- ---- single instructions

abbrev pub load_number : Register16 → ℕ → Instr
load_number r k = i.MoveWord (Immediate (rm.Register r) k)

abbrev pub copy : (to from : Register16) → Instr
copy to from = i.MoveWord (FromRegister (rm.Register to) from)

-- AX and another register change places: a byte shorter than a copy, where the old value is wanted no more
abbrev pub exchange : Register16 → Instr
exchange r = i.ExchangeWords (word_pair Ax r)

abbrev pub clear_byte : Register8 → Instr
clear_byte r = i.MoveByte (Immediate (rm.Register r) 0)

abbrev pub clear_high : Instr
clear_high = clear_byte Ah

abbrev pub alu : AluOperation → (to from : Register16) → Instr
alu f to from = i.AluWord f (FromRegister (rm.Register to) from)

abbrev pub alu_number : AluOperation → Register16 → ℕ → Instr
alu_number f r k = i.AluWord f (Immediate (rm.Register r) k)

-- the sign bit turned: words with sign then stand in the order of words
abbrev pub sign_turned : Register16 → Instr
sign_turned r = alu_number Add r 0x8000

-- SUB AX,AX is shorter than a move of 0
abbrev pub accumulator_gets : ℕ → Instr
accumulator_gets k = if nat_eq k 0 then alu Sub Ax Ax else load_number Ax k

-- TEST AX,AX is shorter than a comparison with 0
abbrev pub compares : ℕ → Instr
compares k = if nat_eq k 0 then i.TestWord (rm.Register Ax) (masks.Register Ax) else alu_number Cmp Ax k

abbrev pub push : Register16 → Instr
push r = i.Push (rm.Register r)

abbrev pub pop : Register16 → Instr
pop r = i.Pop (rm.Register r)

-- ---- lists of them

-- a value of this width in the accumulator
abbrev pub narrow : Width → List Instr
narrow widths.Byte = clear_high ∷ []
narrow widths.Word = []

abbrev pub then_narrow : Width → Instr → List Instr
then_narrow width n = n ∷ narrow width

-- a byte that was read into CL
abbrev pub narrow_right : Width → List Instr
narrow_right widths.Byte = clear_byte Ch ∷ []
narrow_right widths.Word = []

abbrev pub spread : Instr
spread = i.AluByte Sbb (FromRegister (rm.Register Al) Al)

abbrev pub inverted : Instr
inverted = i.UnaryByte changes.Not (rm.Register Al)

abbrev pub shift_word : ShiftOperation → Count → Instr
shift_word f c = i.ShiftWord f (rm.Register Ax) c

abbrev pub shift_byte : ShiftOperation → Instr
shift_byte f = i.ShiftByte f (rm.Register Al) counts.Cl

-- AL is 0FFH where the carry is set, else 0; or the other way round
abbrev pub from_carry : List Instr
from_carry = spread ∷ clear_high ∷ []

abbrev pub from_no_carry : List Instr
from_no_carry = spread ∷ inverted ∷ clear_high ∷ []

-- AX shifted by a count
abbrev pub left_by : Width → Count → List Instr
left_by width c = then_narrow width (shift_word shifts.Shl c)

abbrev pub right_by : Width → Count → List Instr
right_by width c = narrow width ++ shift_word shifts.Shr c ∷ []

-- AX, or AL alone, turned round by CL
abbrev pub turned_round : ShiftOperation → Width → List Instr
turned_round f widths.Byte = shift_byte f ∷ clear_high ∷ []
turned_round f widths.Word = shift_word f counts.Cl ∷ []

-- an operator on AX and CX
abbrev pub core : BinaryOperation → Width → List Instr
core binary.Multiply width = then_narrow width (i.MultiplyWord Unsigned (rm.Register Cx))
core binary.Divide width = load_number Dx 0 ∷ i.DivideWord Unsigned (rm.Register Cx) ∷ []
core binary.Modulo width = load_number Dx 0 ∷ i.DivideWord Unsigned (rm.Register Cx) ∷ exchange Dx ∷ []
core binary.Add width = then_narrow width (alu Add Ax Cx)
core binary.Subtract width = then_narrow width (alu Sub Ax Cx)
core binary.Equal width = alu Sub Ax Cx ∷ alu_number Cmp Ax 1 ∷ from_carry
core binary.NotEqual width = alu Sub Ax Cx ∷ alu_number Cmp Ax 1 ∷ from_no_carry
core binary.Less width = alu Cmp Ax Cx ∷ from_carry
core binary.LessEqual width = alu Cmp Cx Ax ∷ from_no_carry
core binary.Greater width = alu Cmp Cx Ax ∷ from_carry
core binary.GreaterEqual width = alu Cmp Ax Cx ∷ from_no_carry
core binary.And width = alu And Ax Cx ∷ []
core binary.Or width = alu Or Ax Cx ∷ []
core binary.ExclusiveOr width = alu Xor Ax Cx ∷ []
core binary.ShiftLeft width = left_by width counts.Cl
core binary.ShiftRight width = right_by width counts.Cl
core binary.RotateLeft width = turned_round shifts.Rol width
core binary.RotateRight width = turned_round shifts.Ror width
core binary.DivideSigned width = i.ConvertWord ∷ i.DivideWord Signed (rm.Register Cx) ∷ []
core binary.ModuloSigned width = i.ConvertWord ∷ i.DivideWord Signed (rm.Register Cx) ∷ exchange Dx ∷ []
core binary.LessSigned width = sign_turned Ax ∷ sign_turned Cx ∷ alu Cmp Ax Cx ∷ from_carry
core binary.LessEqualSigned width = sign_turned Ax ∷ sign_turned Cx ∷ alu Cmp Cx Ax ∷ from_no_carry
core binary.GreaterSigned width = sign_turned Ax ∷ sign_turned Cx ∷ alu Cmp Cx Ax ∷ from_carry
core binary.GreaterEqualSigned width = sign_turned Ax ∷ sign_turned Cx ∷ alu Cmp Ax Cx ∷ from_no_carry

-- the arithmetic of an operator that takes its right operand where it lies
abbrev pub direct : BinaryOperation → AluOperation
direct binary.Multiply = Xor
direct binary.Divide = Xor
direct binary.Modulo = Xor
direct binary.Add = Add
direct binary.Subtract = Sub
direct binary.Equal = Xor
direct binary.NotEqual = Xor
direct binary.Less = Xor
direct binary.LessEqual = Xor
direct binary.Greater = Xor
direct binary.GreaterEqual = Xor
direct binary.And = And
direct binary.Or = Or
direct binary.ExclusiveOr = Xor
direct binary.ShiftLeft = Xor
direct binary.ShiftRight = Xor
direct binary.RotateLeft = Xor
direct binary.RotateRight = Xor
direct binary.DivideSigned = Xor
direct binary.ModuloSigned = Xor
direct binary.LessSigned = Xor
direct binary.LessEqualSigned = Xor
direct binary.GreaterSigned = Xor
direct binary.GreaterEqualSigned = Xor

-- a sum or a difference of bytes may leave a carry in the high byte
abbrev pub narrow_after : AluOperation → Width → List Instr
narrow_after Add width = narrow width
narrow_after Sub width = narrow width
narrow_after Or width = []
narrow_after Adc width = []
narrow_after Sbb width = []
narrow_after And width = []
narrow_after Xor width = []
narrow_after Cmp width = []

abbrev pub narrow_sum : BinaryOperation → Width → List Instr
narrow_sum o width = narrow_after (direct o) width

-- ---- an operator on AX and a constant

-- where a byte is wanted, AL and a byte will do
abbrev pub sum_number : AluOperation → Width → ℕ → Instr
sum_number f widths.Byte k = i.AluByte f (Immediate (rm.Register Al) (k % 256))
sum_number f widths.Word k = alu_number f Ax k

-- INC and DEC have one byte
abbrev pub sum_with : (one : change.UnaryOperation) → AluOperation → Width → ℕ → Instr
sum_with one f width k = if nat_eq k 1 then i.UnaryWord one (rm.Register Ax) else sum_number f width k

-- a step added to AL or AX, whose flags are asked afterwards: the flags of INC AX say nothing of AL
abbrev pub increment : Width → Instr
increment widths.Byte = i.UnaryByte changes.Inc (rm.Register Al)
increment widths.Word = i.UnaryWord changes.Inc (rm.Register Ax)

abbrev pub step_added : Width → ℕ → Instr
step_added width k = if nat_eq k 1 then increment width else sum_number Add width k

-- a shift whose count is a constant
abbrev pub load_count : ℕ → Instr
load_count n = i.MoveByte (Immediate (rm.Register Cl) n)

abbrev pub counted : ℕ → (Count → List Instr) → List Instr
counted n shift = if nat_eq n 1 then shift counts.One else load_count n ∷ shift counts.Cl

-- the exponent of a small power of two
abbrev pub exponent : ℕ → Option ℕ
exponent k = if nat_eq k 2 then Some 1 else if nat_eq k 4 then Some 2 else if nat_eq k 8 then Some 3 else if nat_eq k 16 then Some 4 else None

abbrev pub by_number : BinaryOperation → Width → ℕ → List Instr
by_number o width k = load_number Cx k ∷ core o width

-- a product, a quotient, a remainder: by shifts and a mask where there is an exponent
abbrev pub by_product : Width → ℕ → Option ℕ → List Instr
by_product width k None = by_number binary.Multiply width k
by_product width k (Some n) = counted n (left_by width)

abbrev pub by_quotient : Width → ℕ → Option ℕ → List Instr
by_quotient width k None = by_number binary.Divide width k
by_quotient width k (Some n) = counted n (right_by widths.Word)

abbrev pub by_remainder : Width → ℕ → Option ℕ → List Instr
by_remainder width k None = by_number binary.Modulo width k
by_remainder width k (Some n) = alu_number And Ax (k - 1) ∷ []

-- a relation of words with sign, as one of words with their sign bits turned
abbrev pub by_turned : (unsigned : BinaryOperation) → Width → ℕ → List Instr
by_turned o width k = sign_turned Ax ∷ by_number o width ((k + 0x8000) % 65536)

abbrev pub by_constant : BinaryOperation → Width → ℕ → List Instr
by_constant binary.Add width k = sum_with changes.Inc Add width k ∷ narrow width
by_constant binary.Subtract width k = sum_with changes.Dec Sub width k ∷ narrow width
by_constant binary.And width k = alu_number And Ax k ∷ []
by_constant binary.Or width k = alu_number Or Ax k ∷ []
by_constant binary.ExclusiveOr width k = alu_number Xor Ax k ∷ []
by_constant binary.Multiply width k = by_product width k (exponent k)
by_constant binary.Divide width k = by_quotient width k (exponent k)
by_constant binary.Modulo width k = by_remainder width k (exponent k)
by_constant binary.ShiftLeft width k = counted (k % 256) (left_by width)
by_constant binary.ShiftRight width k = counted (k % 256) (right_by width)
by_constant binary.Equal width k = by_number binary.Equal width k
by_constant binary.NotEqual width k = by_number binary.NotEqual width k
by_constant binary.Less width k = by_number binary.Less width k
by_constant binary.LessEqual width k = by_number binary.LessEqual width k
by_constant binary.Greater width k = by_number binary.Greater width k
by_constant binary.GreaterEqual width k = by_number binary.GreaterEqual width k
by_constant binary.RotateLeft width k = by_number binary.RotateLeft width k
by_constant binary.RotateRight width k = by_number binary.RotateRight width k
by_constant binary.DivideSigned width k = by_number binary.DivideSigned width k
by_constant binary.ModuloSigned width k = by_number binary.ModuloSigned width k
by_constant binary.LessSigned width k = by_turned binary.Less width k
by_constant binary.LessEqualSigned width k = by_turned binary.LessEqual width k
by_constant binary.GreaterSigned width k = by_turned binary.Greater width k
by_constant binary.GreaterEqualSigned width k = by_turned binary.GreaterEqual width k

-- an operator on AX
abbrev pub changed : UnaryOperation → Width → List Instr
changed unary.Plus width = i.Nop ∷ []
changed unary.Minus width = then_narrow width (i.UnaryWord changes.Neg (rm.Register Ax))
changed unary.Not width = then_narrow width (i.UnaryWord changes.Not (rm.Register Ax))
changed unary.Low width = clear_high ∷ []
changed unary.High width = i.MoveByte (FromRegister (rm.Register Al) Ah) ∷ clear_high ∷ []
changed unary.Double width = i.Nop ∷ []

-- operators whose operands may change places
abbrev pub commutes : BinaryOperation → Bool
commutes binary.Multiply = true
commutes binary.Divide = false
commutes binary.Modulo = false
commutes binary.Add = true
commutes binary.Subtract = false
commutes binary.Equal = false
commutes binary.NotEqual = false
commutes binary.Less = false
commutes binary.LessEqual = false
commutes binary.Greater = false
commutes binary.GreaterEqual = false
commutes binary.And = true
commutes binary.Or = true
commutes binary.ExclusiveOr = true
commutes binary.ShiftLeft = false
commutes binary.ShiftRight = false
commutes binary.RotateLeft = false
commutes binary.RotateRight = false
commutes binary.DivideSigned = false
commutes binary.ModuloSigned = false
commutes binary.LessSigned = false
commutes binary.LessEqualSigned = false
commutes binary.GreaterSigned = false
commutes binary.GreaterEqualSigned = false

-- the left operand comes from the stack, into its place or that of the right one
abbrev pub from_stack : (commutes : Bool) → List Instr
from_stack true = pop Cx ∷ []
from_stack false = exchange Cx ∷ pop Ax ∷ []

-- a word of the context's own, that n others lie on
abbrev pub own_word : ℕ → Memory
own_word n = record { segment = segments.Ss; address = Based bases.Bp (2 * n % 65536) }

-- AX gets the word that n others lie on; the one on top is popped and pushed again
abbrev pub picked : ℕ → List Instr
picked n = if nat_eq n 0 then pop Ax ∷ push Ax ∷ [] else copy Bp Sp ∷ i.MoveWord (FromMemory Ax (own_word n)) ∷ []

-- n words go
abbrev pub dropped : ℕ → Instr
dropped n = if nat_eq n 0 then i.Nop else if nat_eq n 1 then pop Cx else alu_number Add Sp (2 * n % 65536)

-- ---- memory and ports

abbrev pub spot : Option Base → Segment → Spot
spot base segment = record { segment = segment; base = base }

-- a register of this width and a place
abbrev pub access : Use → (half : Register8) (whole : Register16) → Width → Option Base → Segment → Open
access f half whole widths.Byte base segment = opens.Byte f half (spot base segment)
access f half whole widths.Word base segment = opens.Word f whole (spot base segment)

abbrev pub loads : Width → Option Base → Segment → Open
loads = access Load Al Ax

abbrev pub loads_right : Width → Segment → Open
loads_right width = access Load Cl Cx width None

abbrev pub stores_right : Width → Segment → Open
stores_right width = access Store Cl Cx width None

abbrev pub stores : Width → Option Base → Segment → Open
stores = access Store Al Ax

-- an instruction on a place, in the data's segment or in the screen's: an object's offset is added when the parts are placed
abbrev pub placed : Place → (ram screen : Open) → Step
placed (place.Ram k n) ram screen = Refer ram n Offset k
placed (place.Screen page n) ram screen = Plain (closed screen ((page_begins page + n) % 65536))

abbrev pub on_place : (Segment → Open) → Place → Step
on_place x at = placed at (x segments.Ds) (x segments.Es)

-- an operation on AX and the word at a place
abbrev pub operates : AluOperation → Segment → Open
operates f segment = opens.Word (Operate f) Ax (spot None segment)

-- a comparison of what lies at a place with a constant, a byte or a word; the test of a byte's bits
abbrev pub compares_byte : ℕ → Segment → Open
compares_byte k segment = opens.CompareByte (spot None segment) (k % 256)

abbrev pub compares_word : ℕ → Segment → Open
compares_word k segment = opens.CompareWord (spot None segment) k

abbrev pub tests_byte : (mask : ℕ) → Segment → Open
tests_byte mask segment = opens.TestByte (spot None segment) mask

abbrev pub sent : Width → (port : ℕ) → List Instr
sent width port = if nat_le 256 port then load_number Dx port ∷ i.Out width ports.Dx ∷ [] else i.Out width (ports.Fixed port) ∷ []

abbrev pub received : Width → (port : ℕ) → List Instr
received width port = if nat_le 256 port then load_number Dx port ∷ then_narrow width (i.In width ports.Dx) else then_narrow width (i.In width (ports.Fixed port))

-- ---- steps

abbrev pub plain : List Instr → List Step
plain ns = map Plain ns

-- an operator on AX and what is read at a place
abbrev pub by_read : BinaryOperation → Width → (read : Width) → Place → List Step
by_read o width widths.Byte x = on_place (loads_right widths.Byte) x ∷ plain (narrow_right widths.Byte ++ core o width)
by_read o width widths.Word x =
    if is_direct o then on_place (operates (direct o)) x ∷ plain (narrow_sum o width) else on_place (loads_right widths.Word) x ∷ plain (core o width)

-- ---- low bytes

abbrev pub arithmetic : Direct → AluOperation
arithmetic directs.Add = Add
arithmetic directs.Subtract = Sub
arithmetic directs.And = And
arithmetic directs.Or = Or
arithmetic directs.ExclusiveOr = Xor

-- an operation on AL and the low byte of a number, or on two byte registers
abbrev pub low_number : AluOperation → ℕ → Instr
low_number f k = i.AluByte f (Immediate (rm.Register Al) (k % 256))

abbrev pub byte_alu : AluOperation → (to from : Register8) → Instr
byte_alu f to from = i.AluByte f (FromRegister (rm.Register to) from)

abbrev pub low_gets : ℕ → Instr
low_gets k = i.MoveByte (Immediate (rm.Register Al) (k % 256))

-- AL and the byte at a place
abbrev pub low_on : Use → Segment → Open
low_on f segment = opens.Byte f Al (spot None segment)

-- the high byte stays or becomes 0
abbrev pub cleared : High → List Instr
cleared highs.Kept = []
cleared highs.Cleared = clear_high ∷ []

-- an operation on AL and the right operand, and what comes then
abbrev pub by_right : AluOperation → Right → List Instr → List Step
by_right f (rights.Constant k) ns = plain (low_number f k ∷ ns)
by_right f (rights.Plain x) ns = on_place (low_on (Operate f)) x ∷ plain ns
by_right f rights.Top ns = plain (exchange Cx ∷ pop Ax ∷ byte_alu f Al Cl ∷ ns)

abbrev pub low_received : (port : ℕ) → List Instr → List Instr
low_received port ns = if nat_le 256 port then load_number Dx port ∷ i.In widths.Byte ports.Dx ∷ ns else i.In widths.Byte (ports.Fixed port) ∷ ns

-- AL gets something, and what comes then
abbrev pub low_row : LowByte → List Instr → List Step
low_row (lows.Constant k) ns = plain (low_gets k ∷ ns)
low_row (lows.Load x) ns = on_place (loads widths.Byte None) x ∷ plain ns
low_row (lows.LoadAt x) ns = Plain (copy Bx Ax) ∷ on_place (loads widths.Byte (Some bases.Bx)) x ∷ plain ns
low_row lows.LoadThere ns = Plain (copy Bx Ax) ∷ Plain (closed (loads widths.Byte (Some bases.Bx) segments.Ds) 0) ∷ plain ns
low_row lows.Receive ns = plain (copy Dx Ax ∷ i.In widths.Byte ports.Dx ∷ ns)
low_row (lows.ReceiveFrom port) ns = plain (low_received port ns)
low_row lows.High ns = plain (i.MoveByte (FromRegister (rm.Register Al) Ah) ∷ ns)
low_row (lows.Operate o x) ns = by_right (arithmetic o) x ns

-- the flags of a comparison of low bytes
abbrev pub low_compared : Right → (after : Step) → List Step
low_compared (rights.Constant k) s = Plain (low_number Cmp k) ∷ s ∷ []
low_compared (rights.Plain x) s = on_place (low_on (Operate Cmp)) x ∷ s ∷ []
low_compared rights.Top s = Plain (pop Cx) ∷ Plain (byte_alu Cmp Cl Al) ∷ s ∷ []

-- after a comparison: the relation does not hold
abbrev pub fails : Relation → Condition
fails relation.Equal = conditions.NotEqual
fails relation.NotEqual = conditions.Equal
fails relation.Less = conditions.NotBelow
fails relation.LessEqual = conditions.Above
fails relation.Greater = conditions.BelowOrEqual
fails relation.GreaterEqual = conditions.Below
fails relation.LessSigned = conditions.NotLess
fails relation.LessEqualSigned = conditions.Greater
fails relation.GreaterSigned = conditions.LessOrEqual
fails relation.GreaterEqualSigned = conditions.Less

-- the relation that bytes, which have no sign, stand in
abbrev pub without_sign : Relation → Relation
without_sign relation.Equal = relation.Equal
without_sign relation.NotEqual = relation.NotEqual
without_sign relation.Less = relation.Less
without_sign relation.LessEqual = relation.LessEqual
without_sign relation.Greater = relation.Greater
without_sign relation.GreaterEqual = relation.GreaterEqual
without_sign relation.LessSigned = relation.Less
without_sign relation.LessEqualSigned = relation.LessEqual
without_sign relation.GreaterSigned = relation.Greater
without_sign relation.GreaterEqualSigned = relation.GreaterEqual

-- a jump to a step unless a test holds
abbrev pub unless : Test → (target : ℕ) → List Step
unless test.Odd t = Plain (i.TestByte (rm.Register Al) (masks.Immediate 1)) ∷ GotoIf conditions.Equal t ∷ []
unless (test.Constant o k) t = Plain (compares k) ∷ GotoIf (fails o) t ∷ []
unless (test.Plain o widths.Byte x) t = on_place (loads_right widths.Byte) x ∷ Plain (clear_byte Ch) ∷ Plain (alu Cmp Ax Cx) ∷ GotoIf (fails o) t ∷ []
unless (test.Plain o widths.Word x) t = on_place (operates Cmp) x ∷ GotoIf (fails o) t ∷ []
unless (test.Top o) t = Plain (pop Cx) ∷ Plain (alu Cmp Cx Ax) ∷ GotoIf (fails o) t ∷ []
unless (test.Low o x) t = low_compared x (GotoIf (fails (without_sign o)) t)
unless (test.Named o widths.Byte x k) t = on_place (compares_byte k) x ∷ GotoIf (fails (without_sign o)) t ∷ []
unless (test.Named o widths.Word x k) t = on_place (compares_word k) x ∷ GotoIf (fails o) t ∷ []
unless (test.OddNamed x) t = on_place (tests_byte 1) x ∷ GotoIf conditions.Equal t ∷ []

-- After a step was added: the sum stays in the range of its width. INC leaves the carry as it was, and its sum is 0 where it does not.
abbrev pub stays_in_range : (step : ℕ) → Condition
stays_in_range k = if nat_eq k 1 then conditions.NotEqual else conditions.NotBelow

-- a jump to a step if it does; a byte does not by a step above 255
abbrev pub again : Width → (step target : ℕ) → List Step
again widths.Byte k t = if nat_le 256 k then [] else GotoIf (stays_in_range k) t ∷ []
again widths.Word k t = GotoIf (stays_in_range k) t ∷ []

-- ---- registers that an interrupt procedure saves

abbrev pub with_register : Bool → Register16 → List Register16 → List Register16
with_register true r rs = r ∷ rs
with_register false r rs = rs

abbrev pub registers_of : Registers → List Register16
registers_of s = with_register s.accumulator Ax (with_register s.right Cx (with_register s.high Dx (with_register s.address Bx (with_register s.frame Bp []))))

abbrev pub saved : List Register16 → List Instr
saved rs = map push rs

-- the last one comes back first
abbrev pub given_back : List Register16 → List Instr
given_back [] = []
given_back (r ∷ rs) = given_back rs ++ pop r ∷ []

-- an interrupt procedure ends
abbrev pub finished : Registers → List Step
finished saves = plain (given_back (registers_of saves) ++ i.InterruptReturn ∷ [])

-- ---- the table

-- The step at which each row of the routine begins, by its index; the part of each procedure; the registers that the routine saves.
module _ (first : ℕ → ℕ) (part : ℕ → ℕ) (saves : Registers) where
  -- An instruction's row, where this is the index after it. The registers that its instructions can change, and the bytes that they take at
  -- most, stand in icode's Registers and Room, in the same order.
  abbrev pub row : (next : ℕ) → Instruction → List Step
  row p (op.Constant k) = Plain (accumulator_gets k) ∷ []
  row p (op.Locate x) = on_place (λ s. opens.Number Ax) x ∷ []
  row p (op.LocateAt x) = on_place (λ s. opens.OperateAx Add) x ∷ []
  row p (op.Load width x) = on_place (loads width None) x ∷ plain (narrow width)
  row p (op.LoadAt width x) = Plain (exchange Bx) ∷ on_place (loads width (Some bases.Bx)) x ∷ plain (narrow width)
  row p (op.LoadThere width) = Plain (exchange Bx) ∷ Plain (closed (loads width (Some bases.Bx) segments.Ds) 0) ∷ plain (narrow width)
  row p (op.Low low high) = low_row low (cleared high)
  row p op.Push = Plain (push Ax) ∷ []
  row p (op.Pick n) = plain (picked n)
  row p (op.Drop n) = Plain (dropped n) ∷ []
  row p (op.Unary o width) = plain (changed o width)
  row p (op.Binary o width) = plain (from_stack (commutes o) ++ core o width)
  row p (op.BinaryConstant o width k) = plain (by_constant o width k)
  row p (op.BinaryPlain o width read x) = by_read o width read x
  row p (op.Store width x) = on_place (stores width None) x ∷ []
  row p (op.StoreAt width x) = Plain (exchange Bx) ∷ Plain (pop Ax) ∷ on_place (stores width (Some bases.Bx)) x ∷ []
  row p (op.StoreThere width) = Plain (exchange Bx) ∷ Plain (pop Ax) ∷ Plain (closed (stores width (Some bases.Bx) segments.Ds) 0) ∷ []
  row p (op.StoreTop width x) = Plain (pop Cx) ∷ on_place (stores_right width) x ∷ []
  row p (op.StoreConstantAt width x k) = Plain (exchange Bx) ∷ Plain (accumulator_gets k) ∷ on_place (stores width (Some bases.Bx)) x ∷ []
  row p (op.Send width) = plain (exchange Dx ∷ pop Ax ∷ i.Out width ports.Dx ∷ [])
  row p (op.SendTo width port) = plain (sent width port)
  row p (op.Receive width) = plain (exchange Dx ∷ then_narrow width (i.In width ports.Dx))
  row p (op.ReceiveFrom width port) = plain (received width port)
  row p (op.Ahead n) = Goto (first (p + n)) ∷ []
  row p (op.AheadUnless t n) = unless t (first (p + n))
  row p (op.Back n) = Goto (first (p - n)) ∷ []
  row p (op.BackUnless t n) = unless t (first (p - n))
  -- MOV leaves the flags
  row p (op.Next width x k n) = Plain (step_added width k) ∷ on_place (stores width None) x ∷ again width k (first (p - n))
  row p (op.Switch n) =
      Plain (alu_number Cmp Ax (n % 65536)) ∷ GotoIf conditions.NotBelow (first (p + n)) ∷ Plain (copy Bx Ax) ∷ Plain (i.ShiftWord shifts.Shl (rm.Register Bx) counts.One)
      ∷ AtStep (opens.JumpTo (spot (Some bases.Bx) segments.Cs)) (first p) ∷ []
  row p (op.Case n) = Word (first (p + n)) ∷ []
  row p (op.Invoke q) = Refer opens.Call 0 Near (part q) ∷ []
  row p op.Leave = Plain i.Return ∷ []
  row p op.Enable = Plain i.EnableInterrupts ∷ Plain i.Nop ∷ []
  row p op.Disable = Plain i.DisableInterrupts ∷ []
  row p op.Halt = Plain i.EnableInterrupts ∷ Plain i.Halt ∷ []
  row p op.Finish = finished saves

  -- the rows of instructions, the first of which has this index
  abbrev pub rows : ℕ → List Instruction → List Step
  rows k [] = []
  rows k (n ∷ ns) = row (k + 1) n ++ rows (k + 1) ns

-- the number of steps of an instruction in a routine that saves these registers
abbrev pub steps_in : Registers → Instruction → ℕ
steps_in saves n = length (row (λ k. 0) (λ q. 0) saves 0 n)

-- the step at which the row of an index begins, after the pushes of what is saved
abbrev pub first_of : Registers → List Instruction → ℕ → ℕ
first_of saves code k = length (registers_of saves) + sum (map (steps_in saves) (take k code))

-- a routine: it saves registers, and does what its instructions say
abbrev pub routine : (part : ℕ → ℕ) → Registers → List Instruction → List Step
routine part saves code = plain (saved (registers_of saves)) ++ rows (first_of saves code) part saves 0 code
