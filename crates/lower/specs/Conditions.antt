-- What a jump asks, and what is computed before it.
use Rattle.std.specs.Prelude.{Bool, true, false, ◌&&◌, List, [], ◌++◌, Option, Some, None}
use Rattle.word86.specs.declared.width.Width.{Width}
use Rattle.word86.specs.declared.width.Width.TheVariants as widths
use Rattle.word86.specs.declared.place.Place.{Place}
use Rattle.plm_type.specs.Rest.{Expression, Constant, Plain, Variable, Location, Unary, Binary, Embedded, Input, Call, Value, Passing, Running, Procedure}
use Rattle.icode.specs.declared.instruction.Instruction.{Instruction}
use Rattle.icode.specs.declared.instruction.Relation.{Relation}
use Rattle.icode.specs.declared.instruction.Right.TheVariants as rights
use Rattle.icode.specs.declared.instruction.Test.{Test}
use Rattle.icode.specs.declared.instruction.Test.TheVariants as test
use Rattle.icode.specs.Machine.{is_odd}
use Rattle.lower.specs.Expressions.{Operand, Number, Name, Computed, operand_of, place_of, beside, relation_of, stands_to, expression_code}
use Rattle.lower.specs.LowBytes.{is_byte, low_code}

-- whether the low byte of the left operand stands in a relation to that of the right one
abbrev pub low_stands_to : Relation → Operand → Test
low_stands_to o (Number k) = test.Low o (rights.Constant k)
low_stands_to o (Name read x) = test.Low o (rights.Plain x)
low_stands_to o Computed = test.Low o rights.Top

-- a relation is the jump's own test, of low bytes where both operands are bytes
abbrev pub related : (bytes : Bool) → Relation → Operand → Test
related true o right = low_stands_to o right
related false o right = stands_to o right

-- Where the left operand is a plain scalar and the right one a constant, the jump's test reads the scalar itself, and nothing is computed
-- before it. A byte is so compared with a byte alone.
abbrev pub named : (bytes : Bool) → Relation → (left right : Operand) → Option Test
named bytes o (Name widths.Word x) (Number k) = Some (test.Named o widths.Word x k)
named true o (Name widths.Byte x) (Number k) = Some (test.Named o widths.Byte x k)
named false o (Name widths.Byte x) (Number k) = None
named bytes o (Name width x) (Name read y) = None
named bytes o (Name width x) Computed = None
named bytes o (Number j) right = None
named bytes o Computed right = None

abbrev pub or_test : Option Test → Test → Test
or_test (Some t) other = t
or_test None other = other

abbrev pub unless_named : Option Test → List Instruction → List Instruction
unless_named (Some t) code = []
unless_named None code = code

-- the test of a comparison
abbrev pub compared_by : (bytes : Bool) → Relation → (left right : Operand) → Test
compared_by bytes o left right = or_test (named bytes o left right) (related bytes o right)

-- of every other condition the lowest bit counts
abbrev pub asked : Option Relation → (bytes : Bool) → (left right : Operand) → Test
asked (Some o) bytes left right = compared_by bytes o left right
asked None bytes left right = test.Odd

-- that of a plain BYTE is asked where it lies
abbrev pub odd_by : Width → Place → Test
odd_by widths.Byte x = test.OddNamed x
odd_by widths.Word x = test.Odd

abbrev pub are_bytes : (left right : Expression) → Bool
are_bytes a b = is_byte a && is_byte b

abbrev pub test_of : Expression → Test
test_of (Binary module_index line o width a b) = asked (relation_of o) (are_bytes a b) (operand_of a) (operand_of b)
test_of (Constant k) = test.Odd
test_of (Plain width x) = odd_by width (place_of x)
test_of (Variable width r) = test.Odd
test_of (Location r) = test.Odd
test_of (Unary o width e) = test.Odd
test_of (Embedded t e) = test.Odd
test_of (Input width port) = test.Odd
test_of (Call p es) = test.Odd
test_of (Value v) = test.Odd
test_of (Passing p xs vs) = test.Odd
test_of (Running ss) = test.Odd

-- whether a condition is a constant that holds
abbrev pub always : Expression → Bool
always (Constant k) = is_odd k
always (Plain width x) = false
always (Variable width r) = false
always (Location r) = false
always (Unary o width e) = false
always (Binary module_index line o width a b) = false
always (Embedded t e) = false
always (Input width port) = false
always (Call p es) = false
always (Value v) = false
always (Passing p xs vs) = false
always (Running ss) = false

abbrev pub compared : (bytes : Bool) → (low whole : List Instruction) → List Instruction
compared true low whole = low
compared false low whole = whole

-- the code of a condition that is a relation; of every other one
abbrev pub asking : Option Relation → (comparison : Relation → List Instruction) → (value : List Instruction) → List Instruction
asking (Some o) comparison value = comparison o
asking None comparison value = value

abbrev pub unless_byte : Width → List Instruction → List Instruction
unless_byte widths.Byte code = []
unless_byte widths.Word code = code

module _ (procedures : List Procedure) where
  -- the operands of a relation
  abbrev pub comparison_code : (left right : Expression) → List Instruction
  comparison_code a b =
      compared (are_bytes a b) (low_code procedures a ++ beside (operand_of b) (low_code procedures b)) (expression_code procedures a ++ beside (operand_of b) (expression_code procedures b))

  -- what is computed before a test
  abbrev pub condition_code : Expression → List Instruction
  condition_code (Binary module_index line o width a b) =
      asking (relation_of o) (λ q. unless_named (named (are_bytes a b) q (operand_of a) (operand_of b)) (comparison_code a b)) (low_code procedures (Binary module_index line o width a b))
  condition_code (Constant k) = low_code procedures (Constant k)
  condition_code (Plain width x) = unless_byte width (low_code procedures (Plain width x))
  condition_code (Variable width r) = low_code procedures (Variable width r)
  condition_code (Location r) = low_code procedures (Location r)
  condition_code (Unary o width e) = low_code procedures (Unary o width e)
  condition_code (Embedded t e) = low_code procedures (Embedded t e)
  condition_code (Input width port) = low_code procedures (Input width port)
  condition_code (Call p es) = low_code procedures (Call p es)
  condition_code (Value v) = low_code procedures (Value v)
  condition_code (Passing p xs vs) = low_code procedures (Passing p xs vs)
  condition_code (Running ss) = low_code procedures (Running ss)
