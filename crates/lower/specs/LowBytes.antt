-- The code of values of which the low byte alone is wanted: the high byte is then anything.
use Rattle.std.specs.Prelude.{ℕ, Bool, true, false, ◌&&◌, ◌||◌, nat_eq, nat_lt, cond, List, [], ◌∷◌, ◌++◌, Option, Some, None}
use Rattle.word86.specs.declared.width.Width.{Width}
use Rattle.word86.specs.declared.width.Width.TheVariants as widths
use Rattle.word86.specs.declared.operation.UnaryOperation.{UnaryOperation}
use Rattle.word86.specs.declared.operation.UnaryOperation.TheVariants as unary
use Rattle.word86.specs.declared.operation.BinaryOperation.{BinaryOperation}
use Rattle.word86.specs.declared.operation.BinaryOperation.TheVariants as binary
use Rattle.word86.specs.declared.place.Place.{Place}
use Rattle.plm_type.specs.Rest.{Anchor, InObject, OnScreen, Behind, There, Expression, Constant, Plain, Variable, Location, Unary, Binary, Embedded, Input, Call, Value, Passing, Running, Refer, Subscripts, NoSubscripts, Subscript, Target, ToPlain, ToVariable, ToPort, Targets, Only, Also, Procedure}
use Rattle.icode.specs.declared.instruction.Instruction.{Instruction}
use Rattle.icode.specs.declared.instruction.Instruction.TheVariants as op
use Rattle.icode.specs.declared.instruction.LowByte.TheVariants as lows
use Rattle.icode.specs.declared.instruction.High.TheVariants as highs
use Rattle.icode.specs.declared.instruction.Right.TheVariants as rights
use Rattle.icode.specs.declared.instruction.Direct.{Direct}
use Rattle.icode.specs.declared.instruction.Direct.TheVariants as directs
use Rattle.lower.specs.Expressions.{folded, Operand, Number, Name, Computed, operand_of, place_of, beside, leads_to, by_offset, expression_code, anchor_place, based, subscripts_code, target_code}

-- an operator whose value's low byte is that of its operands' low bytes
abbrev pub direct_of : BinaryOperation → Option Direct
direct_of binary.Multiply = None
direct_of binary.Divide = None
direct_of binary.Modulo = None
direct_of binary.Add = Some directs.Add
direct_of binary.Subtract = Some directs.Subtract
direct_of binary.Equal = None
direct_of binary.NotEqual = None
direct_of binary.Less = None
direct_of binary.LessEqual = None
direct_of binary.Greater = None
direct_of binary.GreaterEqual = None
direct_of binary.And = Some directs.And
direct_of binary.Or = Some directs.Or
direct_of binary.ExclusiveOr = Some directs.ExclusiveOr
direct_of binary.ShiftLeft = None
direct_of binary.ShiftRight = None
direct_of binary.RotateLeft = None
direct_of binary.RotateRight = None
direct_of binary.DivideSigned = None
direct_of binary.ModuloSigned = None
direct_of binary.LessSigned = None
direct_of binary.LessEqualSigned = None
direct_of binary.GreaterSigned = None
direct_of binary.GreaterEqualSigned = None

-- INC and DEC have one byte, and leave the low byte that the sum of bytes has
abbrev pub is_one_step : Direct → ℕ → Bool
is_one_step directs.Add k = nat_eq k 1
is_one_step directs.Subtract k = nat_eq k 1
is_one_step directs.And k = false
is_one_step directs.Or k = false
is_one_step directs.ExclusiveOr k = false

abbrev pub low_constant : Direct → BinaryOperation → ℕ → Instruction
low_constant d o k = cond (is_one_step d k) (op.BinaryConstant o widths.Word k) (op.Low (lows.Operate d (rights.Constant k)) highs.Kept)

-- with a left operand that is pushed: words have shorter code where the order of the operands does not count
abbrev pub low_top : Direct → BinaryOperation → Instruction
low_top directs.Add o = op.Binary o widths.Word
low_top directs.Subtract o = op.Low (lows.Operate directs.Subtract rights.Top) highs.Kept
low_top directs.And o = op.Binary o widths.Word
low_top directs.Or o = op.Binary o widths.Word
low_top directs.ExclusiveOr o = op.Binary o widths.Word

abbrev pub low_operation : Direct → BinaryOperation → Operand → Instruction
low_operation d o (Number k) = low_constant d o k
low_operation d o (Name widths.Byte x) = op.Low (lows.Operate d (rights.Plain x)) highs.Kept
low_operation d o (Name widths.Word x) = op.BinaryPlain o widths.Word widths.Word x
low_operation d o Computed = low_top d o

abbrev pub low_load : Width → Place → Instruction
low_load widths.Byte x = op.Low (lows.Load x) highs.Kept
low_load widths.Word x = op.Load widths.Word x

-- a byte is read once the subscripts are added; a variable without any lies at a fixed place
abbrev pub low_reading : Anchor → ℕ → Subscripts → List Instruction
low_reading (Behind base) offset ss = based base offset ss ++ op.Low lows.LoadThere highs.Kept ∷ []
low_reading (InObject k start size) offset NoSubscripts = op.Low (lows.Load (anchor_place (InObject k start size) offset)) highs.Kept ∷ []
low_reading (InObject k start size) offset (Subscript stride e more) = op.Low (lows.LoadAt (anchor_place (InObject k start size) offset)) highs.Kept ∷ []
low_reading (OnScreen page start size) offset NoSubscripts = op.Low (lows.Load (anchor_place (OnScreen page start size) offset)) highs.Kept ∷ []
low_reading (OnScreen page start size) offset (Subscript stride e more) = op.Low (lows.LoadAt (anchor_place (OnScreen page start size) offset)) highs.Kept ∷ []
low_reading (There address) offset NoSubscripts = op.Low (lows.Load (anchor_place (There address) offset)) highs.Kept ∷ []
low_reading (There address) offset (Subscript stride e more) = op.Low (lows.LoadAt (anchor_place (There address) offset)) highs.Kept ∷ []

-- a byte from a port
abbrev pub low_receiving : Operand → List Instruction → List Instruction
low_receiving (Number port) code = op.Low (lows.ReceiveFrom port) highs.Kept ∷ []
low_receiving (Name read x) code = code ++ op.Low lows.Receive highs.Kept ∷ []
low_receiving Computed code = code ++ op.Low lows.Receive highs.Kept ∷ []

-- by an operator on low bytes, or whole
abbrev pub by_operator : Option Direct → (Direct → List Instruction) → (whole : List Instruction) → List Instruction
by_operator (Some d) low whole = low d
by_operator None low whole = whole

abbrev pub is_narrow : Width → Bool
is_narrow widths.Byte = true
is_narrow widths.Word = false

-- whether a value is below 256, as far as the tree tells at once
abbrev pub direct_gives : Direct → Width → (left right : Bool) → Bool
direct_gives directs.Add width a b = is_narrow width
direct_gives directs.Subtract width a b = is_narrow width
direct_gives directs.And width a b = a || b
direct_gives directs.Or width a b = a && b
direct_gives directs.ExclusiveOr width a b = a && b

abbrev pub gives_by : Option Direct → Width → (left right : Bool) → Bool
gives_by (Some d) width a b = direct_gives d width a b
gives_by None width a b = false

abbrev pub is_byte : Expression → Bool
is_byte (Constant k) = nat_lt k 256
is_byte (Plain width x) = is_narrow width
is_byte (Binary module_index line o width a b) = gives_by (direct_of o) width (is_byte a) (is_byte b)
is_byte (Variable width r) = false
is_byte (Location r) = false
is_byte (Unary o width e) = false
is_byte (Embedded t e) = false
is_byte (Input width port) = false
is_byte (Call p es) = false
is_byte (Value v) = false
is_byte (Passing p xs vs) = false
is_byte (Running ss) = false

-- whether the low byte is all that a target gets
abbrev pub takes_byte : Target → Bool
takes_byte (ToPlain width x) = is_narrow width
takes_byte (ToVariable width r) = is_narrow width
takes_byte (ToPort width port) = is_narrow width

abbrev pub take_bytes : Targets → Bool
take_bytes (Only t) = takes_byte t
take_bytes (Also t ts) = takes_byte t && take_bytes ts

-- an operand's low byte, or its whole value for a difference and where the high byte is wanted
abbrev pub operand_code : UnaryOperation → (low whole : List Instruction) → List Instruction
operand_code unary.Plus low whole = low
operand_code unary.Minus low whole = whole
operand_code unary.Not low whole = low
operand_code unary.Low low whole = low
operand_code unary.High low whole = whole
operand_code unary.Double low whole = low

-- what is done to it
abbrev pub low_changing : UnaryOperation → Instruction
low_changing unary.Plus = op.Unary unary.Plus widths.Word
low_changing unary.Minus = op.Unary unary.Minus widths.Word
low_changing unary.Not = op.Low (lows.Operate directs.ExclusiveOr (rights.Constant 255)) highs.Kept
low_changing unary.Low = op.Unary unary.Plus widths.Word
low_changing unary.High = op.Low lows.High highs.Kept
low_changing unary.Double = op.Unary unary.Plus widths.Word

-- the code of an expression, of which this is known before any run
abbrev pub unless_low_known : Option ℕ → List Instruction → List Instruction
unless_low_known (Some k) code = op.Low (lows.Constant k) highs.Kept ∷ []
unless_low_known None code = code

module _ (procedures : List Procedure) where
  abbrev pub low_code : Expression → List Instruction
  low_code (Constant k) = op.Low (lows.Constant k) highs.Kept ∷ []
  low_code (Plain width x) = low_load width (place_of x) ∷ []
  low_code (Binary module_index line o width a b) =
      unless_low_known (folded (Binary module_index line o width a b))
      (by_operator (direct_of o) (λ d. low_code a ++ (beside (operand_of b) (low_code b) ++ low_operation d o (operand_of b) ∷ []))
      (expression_code procedures (Binary module_index line o width a b)))
  low_code (Variable widths.Byte (Refer module_index line anchor offset ss)) =
      by_offset (leads_to (Some offset) ss) (λ to. low_reading anchor to NoSubscripts) (subscripts_code procedures ss ++ low_reading anchor offset ss)
  low_code (Variable widths.Word r) = expression_code procedures (Variable widths.Word r)
  low_code (Location r) = expression_code procedures (Location r)
  low_code (Unary o width e) = unless_low_known (folded (Unary o width e)) (operand_code o (low_code e) (expression_code procedures e) ++ low_changing o ∷ [])
  low_code (Embedded t e) = cond (takes_byte t) (low_code e ++ target_code procedures t) (expression_code procedures (Embedded t e))
  low_code (Input widths.Byte port) = low_receiving (operand_of port) (expression_code procedures port)
  low_code (Input widths.Word port) = expression_code procedures (Input widths.Word port)
  low_code (Call p es) = expression_code procedures (Call p es)
  low_code (Value v) = expression_code procedures (Value v)
  low_code (Passing p xs vs) = expression_code procedures (Passing p xs vs)
  low_code (Running ss) = expression_code procedures (Running ss)

  -- the value of a RETURN
  abbrev pub returned_code : Width → Expression → List Instruction
  returned_code widths.Byte e = low_code e
  returned_code widths.Word e = expression_code procedures e

  -- the value for targets
  abbrev pub given_code : Targets → Expression → List Instruction
  given_code ts e = cond (take_bytes ts) (low_code e) (expression_code procedures e)
