-- The code of expressions, references, calls and tests. An expression leaves its value in the accumulator, and the stack as it was.
use Rattle.std.specs.Prelude.{◌*◌, ℕ, suc, ◌+◌, ◌%◌, Bool, true, false, ◌||◌, nat_eq, cond, List, [], ◌∷◌, ◌++◌, length, Option, Some, None, slice_get}
use Rattle.word86.specs.declared.width.Width.{Width}
use Rattle.word86.specs.declared.width.Width.TheVariants as widths
use Rattle.word86.specs.declared.operation.UnaryOperation.{UnaryOperation}
use Rattle.word86.specs.declared.operation.BinaryOperation.{BinaryOperation}
use Rattle.word86.specs.declared.operation.BinaryOperation.TheVariants as binary
use Rattle.word86.specs.Operation.{unary_value, binary_value}
use Rattle.word86.specs.declared.place.Place.{Place}
use Rattle.word86.specs.declared.place.Place.TheVariants as places
use Rattle.word86.specs.Access.{Where, In}
use Rattle.word86.specs.Access as access
use Rattle.plm_type.specs.Rest.{Anchor, InObject, OnScreen, Behind, There, Scalar, Expression, Constant, Plain, Variable, Location, Unary, Binary, Embedded, Input, Call, Value, Passing, Running, Expressions, NoMore, More, Refer, Subscripts, NoSubscripts, Subscript, Target, ToPlain, ToVariable, ToPort, Targets, Only, Also, Count, Statement, Empty, Assign, Evaluate, Return, ReturnValue, Enabling, Disabling, Halting, If, Block, While, Case, Iterate, Leaving, Round, Comparing, Stepping, Adding, Storing, Ending, Statements, End, Then, Returned, Procedure}
use Rattle.plm_type.specs.Next.{parameters_of}
use Rattle.icode.specs.declared.instruction.Instruction.{Instruction}
use Rattle.icode.specs.declared.instruction.Instruction.TheVariants as op
use Rattle.icode.specs.declared.instruction.LowByte.TheVariants as lows
use Rattle.icode.specs.declared.instruction.High.TheVariants as highs
use Rattle.icode.specs.declared.instruction.Relation.{Relation}
use Rattle.icode.specs.declared.instruction.Relation.TheVariants as relation
use Rattle.icode.specs.declared.instruction.Test.{Test}
use Rattle.icode.specs.declared.instruction.Test.TheVariants as test

-- ---- constants

-- an operator's value where its operands have theirs
abbrev pub unary_folded : UnaryOperation → Width → Option ℕ → Option ℕ
unary_folded o width (Some v) = Some (unary_value o width v)
unary_folded o width None = None

abbrev pub binary_folded : BinaryOperation → Width → Option ℕ → Option ℕ → Option ℕ
binary_folded o width (Some x) (Some y) = binary_value o width x y
binary_folded o width (Some x) None = None
binary_folded o width None y = None

-- the value of an expression of constants, as the language means it; a division that has none is left as it is
abbrev pub folded : Expression → Option ℕ
folded (Constant k) = Some k
folded (Unary o width e) = unary_folded o width (folded e)
folded (Binary module_index line o width a b) = binary_folded o width (folded a) (folded b)
folded (Plain width x) = None
folded (Variable width r) = None
folded (Location r) = None
folded (Embedded t e) = None
folded (Input width e) = None
folded (Call p es) = None
folded (Value v) = None
folded (Passing p xs vs) = None
folded (Running ss) = None

-- the code of an expression, of which this is known before any run
abbrev pub unless_known : Option ℕ → List Instruction → List Instruction
unless_known (Some k) code = op.Constant k ∷ []
unless_known None code = code

-- ---- operands

abbrev pub place_of : Where → Place
place_of (In k i) = places.Ram k i
place_of (access.Screen page i) = places.Screen page i

-- a constant and a plain scalar are operands of an instruction; what else there is is computed
pub data Operand : Type 0 where
  Number : ℕ → Operand
  Name : Width → Place → Operand
  Computed : Operand

abbrev pub number_of : Option ℕ → Operand
number_of (Some k) = Number k
number_of None = Computed

abbrev pub operand_of : Expression → Operand
operand_of (Constant k) = Number k
operand_of (Plain width x) = Name width (place_of x)
operand_of (Variable width r) = Computed
operand_of (Location r) = Computed
operand_of (Unary o width e) = number_of (folded (Unary o width e))
operand_of (Binary module_index line o width a b) = number_of (folded (Binary module_index line o width a b))
operand_of (Embedded t e) = Computed
operand_of (Input width e) = Computed
operand_of (Call p es) = Computed
operand_of (Value v) = Computed
operand_of (Passing p xs vs) = Computed
operand_of (Running ss) = Computed

-- the left operand is pushed while a right one is computed
abbrev pub beside : Operand → List Instruction → List Instruction
beside (Number k) code = []
beside (Name read x) code = []
beside Computed code = op.Push ∷ code

abbrev pub operation : BinaryOperation → Width → Operand → Instruction
operation o width (Number k) = op.BinaryConstant o width k
operation o width (Name read x) = op.BinaryPlain o width read x
operation o width Computed = op.Binary o width

-- ---- references

-- the place at this offset from an anchor that lies at a fixed place
abbrev pub anchor_place : Anchor → ℕ → Place
anchor_place (InObject k start size) offset = places.Ram k ((start + offset) % 65536)
anchor_place (OnScreen page start size) offset = places.Screen page ((start + offset) % 65536)
anchor_place (Behind base) offset = place_of base
anchor_place (There address) offset = places.Ram 0 0

-- the accumulator counts elements of this number of bytes
abbrev pub scaled : ℕ → List Instruction
scaled stride = cond (nat_eq stride 1) [] (op.BinaryConstant binary.Multiply widths.Word (stride % 65536) ∷ [])

-- the accumulator holds an address, to which this offset is added
abbrev pub moved : ℕ → List Instruction
moved offset = cond (nat_eq offset 0) [] (op.BinaryConstant binary.Add widths.Word (offset % 65536) ∷ [])

-- the address that a base holds, further on by the bytes of subscripts, if any, which are in the accumulator
abbrev pub from_base : Where → Subscripts → Instruction
from_base base NoSubscripts = op.Load widths.Word (place_of base)
from_base base (Subscript stride e more) = op.BinaryPlain binary.Add widths.Word widths.Word (place_of base)

abbrev pub based : Where → ℕ → Subscripts → List Instruction
based base offset ss = from_base base ss ∷ moved offset

-- where constant subscripts lead from an offset
abbrev pub constant_of : Expression → Option ℕ
constant_of (Constant k) = Some k
constant_of (Plain width x) = None
constant_of (Variable width r) = None
constant_of (Location r) = None
constant_of (Unary o width e) = None
constant_of (Binary module_index line o width a b) = None
constant_of (Embedded t e) = None
constant_of (Input width e) = None
constant_of (Call p es) = None
constant_of (Value v) = None
constant_of (Passing p xs vs) = None
constant_of (Running ss) = None

abbrev pub further_on : (offset stride : ℕ) → Option ℕ → Option ℕ
further_on offset stride (Some k) = Some ((offset + stride * k) % 65536)
further_on offset stride None = None

abbrev pub leads_to : Option ℕ → Subscripts → Option ℕ
leads_to None ss = None
leads_to (Some offset) NoSubscripts = Some offset
leads_to (Some offset) (Subscript stride e more) = leads_to (further_on offset stride (constant_of e)) more

-- by where constant subscripts lead, if these are
abbrev pub by_offset : Option ℕ → (known : ℕ → List Instruction) → (computed : List Instruction) → List Instruction
by_offset (Some offset) known computed = known offset
by_offset None known computed = computed

-- what is read and located once the subscripts are added; a variable without any lies at a fixed place
abbrev pub reading : Width → Anchor → ℕ → Subscripts → List Instruction
reading width (Behind base) offset ss = based base offset ss ++ op.LoadThere width ∷ []
reading width (InObject k start size) offset NoSubscripts = op.Load width (anchor_place (InObject k start size) offset) ∷ []
reading width (InObject k start size) offset (Subscript stride e more) = op.LoadAt width (anchor_place (InObject k start size) offset) ∷ []
reading width (OnScreen page start size) offset NoSubscripts = op.Load width (anchor_place (OnScreen page start size) offset) ∷ []
reading width (OnScreen page start size) offset (Subscript stride e more) = op.LoadAt width (anchor_place (OnScreen page start size) offset) ∷ []
reading width (There address) offset NoSubscripts = op.Load width (anchor_place (There address) offset) ∷ []
reading width (There address) offset (Subscript stride e more) = op.LoadAt width (anchor_place (There address) offset) ∷ []

abbrev pub locating : Anchor → ℕ → Subscripts → List Instruction
locating (Behind base) offset ss = based base offset ss
locating (InObject k start size) offset NoSubscripts = op.Locate (anchor_place (InObject k start size) offset) ∷ []
locating (InObject k start size) offset (Subscript stride e more) = op.LocateAt (anchor_place (InObject k start size) offset) ∷ []
locating (OnScreen page start size) offset NoSubscripts = op.Locate (anchor_place (OnScreen page start size) offset) ∷ []
locating (OnScreen page start size) offset (Subscript stride e more) = op.LocateAt (anchor_place (OnScreen page start size) offset) ∷ []
locating (There address) offset NoSubscripts = op.Locate (anchor_place (There address) offset) ∷ []
locating (There address) offset (Subscript stride e more) = op.LocateAt (anchor_place (There address) offset) ∷ []

-- the value in the accumulator, whose code this is, is written once the subscripts are added, and is there afterwards
abbrev pub writing : Width → Anchor → ℕ → Subscripts → List Instruction → List Instruction
writing width (Behind base) offset ss code = op.Push ∷ (code ++ (based base offset ss ++ op.StoreThere width ∷ []))
writing width (InObject k start size) offset NoSubscripts code = op.Store width (anchor_place (InObject k start size) offset) ∷ []
writing width (InObject k start size) offset (Subscript stride e more) code = op.Push ∷ (code ++ op.StoreAt width (anchor_place (InObject k start size) offset) ∷ [])
writing width (OnScreen page start size) offset NoSubscripts code = op.Store width (anchor_place (OnScreen page start size) offset) ∷ []
writing width (OnScreen page start size) offset (Subscript stride e more) code = op.Push ∷ (code ++ op.StoreAt width (anchor_place (OnScreen page start size) offset) ∷ [])
writing width (There address) offset NoSubscripts code = op.Store width (anchor_place (There address) offset) ∷ []
writing width (There address) offset (Subscript stride e more) code = op.Push ∷ (code ++ op.StoreAt width (anchor_place (There address) offset) ∷ [])

-- ---- ports

abbrev pub receiving : Width → Operand → List Instruction → List Instruction
receiving width (Number port) code = op.ReceiveFrom width port ∷ []
receiving width (Name read x) code = code ++ op.Receive width ∷ []
receiving width Computed code = code ++ op.Receive width ∷ []

-- the value in the accumulator is sent, and stays there
abbrev pub sending : Width → Operand → List Instruction → List Instruction
sending width (Number port) code = op.SendTo width port ∷ []
sending width (Name read x) code = op.Push ∷ (code ++ op.Send width ∷ [])
sending width Computed code = op.Push ∷ (code ++ op.Send width ∷ [])

-- ---- calls

-- the values of several arguments are pushed, the last one newest: the parameters get them from the first on
abbrev pub passing : List Scalar → List Instruction
passing [] = []
passing (x ∷ xs) = op.Pick (length xs) ∷ op.Store x.width (place_of x.place) ∷ passing xs

abbrev pub stored_in : Scalar → Instruction
stored_in x = op.Store x.width (place_of x.place)

-- an argument for a parameter of a width, of which this is the code: of a constant and of a plain BYTE the low byte is enough for a BYTE
abbrev pub argument_code : Width → Operand → List Instruction → List Instruction
argument_code widths.Byte (Number k) code = op.Low (lows.Constant k) highs.Kept ∷ []
argument_code widths.Byte (Name widths.Byte y) code = op.Low (lows.Load y) highs.Kept ∷ []
argument_code widths.Byte (Name widths.Word y) code = code
argument_code widths.Byte Computed code = code
argument_code widths.Word o code = code

-- an argument alone
abbrev pub alone : List Scalar → Operand → List Instruction → List Instruction
alone [] o code = code
alone (x ∷ xs) o code = argument_code x.width o code ++ stored_in x ∷ []

-- The second of two arguments, and the parameters get both, the first one first. Where the second one is a constant, which is no step that is
-- seen, the first one is stored at once.
abbrev pub second_passed : (one other : Scalar) → Operand → List Instruction → List Instruction
second_passed x y (Number k) code = stored_in x ∷ (argument_code y.width (Number k) code ++ stored_in y ∷ [])
second_passed x y (Name read z) code = op.Push ∷ (argument_code y.width (Name read z) code ++ (op.StoreTop x.width (place_of x.place) ∷ stored_in y ∷ []))
second_passed x y Computed code = op.Push ∷ (code ++ (op.StoreTop x.width (place_of x.place) ∷ stored_in y ∷ []))

abbrev pub pair : List Scalar → (one other : Operand) → (first second : List Instruction) → List Instruction
pair [] o q first second = []
pair (x ∷ []) o q first second = []
pair (x ∷ y ∷ xs) o q first second = argument_code x.width o first ++ second_passed x y q second

abbrev pub count_of : Expressions → ℕ
count_of NoMore = 0
count_of (More e es) = suc (count_of es)

-- one argument alone is not pushed, and of two at most the first one
abbrev pub call_code : ℕ → List Scalar → Expressions → (first second pushed : List Instruction) → List Instruction
call_code p xs NoMore first second pushed = op.Invoke p ∷ []
call_code p xs (More e NoMore) first second pushed = alone xs (operand_of e) first ++ op.Invoke p ∷ []
call_code p xs (More e (More f NoMore)) first second pushed = pair xs (operand_of e) (operand_of f) first second ++ op.Invoke p ∷ []
call_code p xs (More e (More f (More g es))) first second pushed = pushed ++ (passing xs ++ op.Drop (3 + count_of es) ∷ op.Invoke p ∷ [])

-- whether a RETURN in a statement has a value
abbrev mutual
  pub is_giving : Statement → Bool
  is_giving (ReturnValue width e) = true
  is_giving (If c arm other) = are_giving arm || are_giving other
  is_giving (Block ss) = are_giving ss
  is_giving (While c d ss) = are_giving ss
  is_giving (Case e ss) = are_giving ss
  is_giving (Iterate a (Count o x bound step ss)) = are_giving ss
  is_giving Empty = false
  is_giving (Assign ts e) = false
  is_giving (Evaluate e) = false
  is_giving Return = false
  is_giving Enabling = false
  is_giving Disabling = false
  is_giving Halting = false
  is_giving Leaving = false
  is_giving (Round l) = false
  is_giving (Comparing i e l) = false
  is_giving (Stepping e l) = false
  is_giving (Adding i s l) = false
  is_giving (Storing s leaves l) = false
  is_giving (Ending leaves l) = false

  pub are_giving : Statements → Bool
  are_giving End = false
  are_giving (Then s later) = is_giving s || are_giving later
  are_giving (Returned v) = false

abbrev pub gives : Option Procedure → Bool
gives None = true
gives (Some p) = are_giving p.body

-- after a call whose value is used: of a procedure that gives none it is 0
abbrev pub used : (gives : Bool) → List Instruction
used true = []
used false = op.Constant 0 ∷ []

-- ---- tests

-- what relation an operator asks for
abbrev pub relation_of : BinaryOperation → Option Relation
relation_of binary.Equal = Some relation.Equal
relation_of binary.NotEqual = Some relation.NotEqual
relation_of binary.Less = Some relation.Less
relation_of binary.LessEqual = Some relation.LessEqual
relation_of binary.Greater = Some relation.Greater
relation_of binary.GreaterEqual = Some relation.GreaterEqual
relation_of binary.Multiply = None
relation_of binary.Divide = None
relation_of binary.Modulo = None
relation_of binary.Add = None
relation_of binary.Subtract = None
relation_of binary.And = None
relation_of binary.Or = None
relation_of binary.ExclusiveOr = None
relation_of binary.ShiftLeft = None
relation_of binary.ShiftRight = None
relation_of binary.RotateLeft = None
relation_of binary.RotateRight = None
relation_of binary.LessSigned = Some relation.LessSigned
relation_of binary.LessEqualSigned = Some relation.LessEqualSigned
relation_of binary.GreaterSigned = Some relation.GreaterSigned
relation_of binary.GreaterEqualSigned = Some relation.GreaterEqualSigned
relation_of binary.DivideSigned = None
relation_of binary.ModuloSigned = None

-- whether the left operand stands in a relation to the right one
abbrev pub stands_to : Relation → Operand → Test
stands_to o (Number k) = test.Constant o k
stands_to o (Name read x) = test.Plain o read x
stands_to o Computed = test.Top o

module _ (procedures : List Procedure) where
  abbrev mutual
    pub expression_code : Expression → List Instruction
    expression_code (Constant k) = op.Constant k ∷ []
    expression_code (Plain width x) = op.Load width (place_of x) ∷ []
    expression_code (Variable width (Refer module_index line anchor offset ss)) =
        by_offset (leads_to (Some offset) ss) (λ to. reading width anchor to NoSubscripts) (subscripts_code ss ++ reading width anchor offset ss)
    expression_code (Location (Refer module_index line anchor offset ss)) =
        by_offset (leads_to (Some offset) ss) (λ to. locating anchor to NoSubscripts) (subscripts_code ss ++ locating anchor offset ss)
    expression_code (Unary o width e) = unless_known (folded (Unary o width e)) (expression_code e ++ op.Unary o width ∷ [])
    expression_code (Binary module_index line o width a b) =
        unless_known (folded (Binary module_index line o width a b)) (expression_code a ++ (beside (operand_of b) (expression_code b) ++ operation o width (operand_of b) ∷ []))
    expression_code (Embedded t e) = expression_code e ++ target_code t
    expression_code (Input width port) = receiving width (operand_of port) (expression_code port)
    expression_code (Call p es) = call_code p (parameters_of (slice_get procedures p)) es (first_code es) (second_code es) (pushed_code es) ++ used (gives (slice_get procedures p))
    expression_code (Value v) = []
    expression_code (Passing p xs vs) = []
    expression_code (Running ss) = []

    pub first_code : Expressions → List Instruction
    first_code NoMore = []
    first_code (More e es) = expression_code e

    pub second_code : Expressions → List Instruction
    second_code NoMore = []
    second_code (More e es) = first_code es

    pub pushed_code : Expressions → List Instruction
    pushed_code NoMore = []
    pushed_code (More e es) = expression_code e ++ (op.Push ∷ pushed_code es)

    -- how many bytes the subscripts lead on
    pub subscripts_code : Subscripts → List Instruction
    subscripts_code NoSubscripts = []
    subscripts_code (Subscript stride e more) = expression_code e ++ (scaled stride ++ further_code more)

    pub further_code : Subscripts → List Instruction
    further_code NoSubscripts = []
    further_code (Subscript stride e more) = op.Push ∷ (expression_code e ++ (scaled stride ++ (op.Binary binary.Add widths.Word ∷ further_code more)))

    -- the target gets the value in the accumulator, which is there afterwards
    pub target_code : Target → List Instruction
    target_code (ToPlain width x) = op.Store width (place_of x) ∷ []
    target_code (ToVariable width (Refer module_index line anchor offset ss)) =
        by_offset (leads_to (Some offset) ss) (λ to. writing width anchor to NoSubscripts []) (writing width anchor offset ss (subscripts_code ss))
    target_code (ToPort width port) = sending width (operand_of port) (expression_code port)

  abbrev pub calling : ℕ → Expressions → List Instruction
  calling p es = call_code p (parameters_of (slice_get procedures p)) es (first_code es) (second_code es) (pushed_code es)

  -- of a value that is dropped
  abbrev pub dropped_code : Expression → List Instruction
  dropped_code (Call p es) = calling p es
  dropped_code (Constant k) = expression_code (Constant k)
  dropped_code (Plain width x) = expression_code (Plain width x)
  dropped_code (Variable width r) = expression_code (Variable width r)
  dropped_code (Location r) = expression_code (Location r)
  dropped_code (Unary o width e) = expression_code (Unary o width e)
  dropped_code (Binary module_index line o width a b) = expression_code (Binary module_index line o width a b)
  dropped_code (Embedded t e) = expression_code (Embedded t e)
  dropped_code (Input width port) = expression_code (Input width port)
  dropped_code (Value v) = expression_code (Value v)
  dropped_code (Passing p xs vs) = expression_code (Passing p xs vs)
  dropped_code (Running ss) = expression_code (Running ss)

  abbrev pub targets_code : Targets → List Instruction
  targets_code (Only t) = target_code t
  targets_code (Also t ts) = target_code t ++ targets_code ts
