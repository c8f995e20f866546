-- The types of values, and which types operators, stores and arguments take. What has a fault has no type; no fault is found in what
-- holds it unless the other parts alone are faulty.
use Rattle.std.specs.Prelude.{ℕ, Bool, true, false, ◌&&◌, ◌||◌, nat_le, nat_lt, nat_eq, cond, List, [], ◌∷◌, Option, Some, None, is_some}
use Rattle.word86.specs.declared.width.Width.{Width}
use Rattle.word86.specs.declared.width.Width.TheVariants as width
use Rattle.word86.specs.declared.operation.UnaryOperation.{UnaryOperation}
use Rattle.word86.specs.declared.operation.UnaryOperation.TheVariants as unary
use Rattle.word86.specs.declared.operation.BinaryOperation.{BinaryOperation}
use Rattle.word86.specs.declared.operation.BinaryOperation.TheVariants as binary
use Rattle.plm_syntax.specs.declared.tree.UnaryOperator.{UnaryOperator}
use Rattle.plm_syntax.specs.declared.tree.UnaryOperator.TheVariants as before
use Rattle.plm_syntax.specs.declared.tree.BinaryOperator.{BinaryOperator}
use Rattle.plm_syntax.specs.declared.tree.BinaryOperator.TheVariants as between
use Rattle.plm_syntax.specs.WellFormed.{precedence_of}
use Rattle.plm_decl.specs.declared.layout.ScalarType.{ScalarType}
use Rattle.plm_decl.specs.declared.layout.ScalarType.TheVariants.{Byte, Word, Pointer, Integer}
use Rattle.plm_decl.specs.Datum.{is_byte}

abbrev pub width_of : Option ScalarType → Width
width_of (Some Byte) = width.Byte
width_of (Some Word) = width.Word
width_of (Some Pointer) = width.Word
width_of (Some Integer) = width.Word
-- not known
width_of None = width.Word

-- ---- which types are taken

-- BYTE or WORD, or not known
abbrev pub may_be_number : Option ScalarType → Bool
may_be_number (Some Byte) = true
may_be_number (Some Word) = true
may_be_number (Some Pointer) = false
may_be_number (Some Integer) = false
may_be_number None = true

abbrev pub may_be_pointer : Option ScalarType → Bool
may_be_pointer (Some Byte) = false
may_be_pointer (Some Word) = false
may_be_pointer (Some Pointer) = true
may_be_pointer (Some Integer) = false
may_be_pointer None = true

abbrev pub may_be_integer : Option ScalarType → Bool
may_be_integer (Some Byte) = false
may_be_integer (Some Word) = false
may_be_integer (Some Pointer) = false
may_be_integer (Some Integer) = true
may_be_integer None = true

-- a subscript, or the value of DO CASE: an INTEGER counts as the WORD of its bits
abbrev pub may_count : Option ScalarType → Bool
may_count t = may_be_number t || may_be_integer t

-- one kind on both sides: BYTE and WORD, POINTER, or INTEGER
abbrev pub takes : Option ScalarType → Option ScalarType → Bool
takes t v = (may_be_number t && may_be_number v) || ((may_be_integer t && may_be_integer v) || (may_be_pointer t && may_be_pointer v))

-- AND, OR and XOR stand behind the relations
abbrev pub is_bitwise : BinaryOperator → Bool
is_bitwise o = nat_lt 4 (precedence_of o)

abbrev pub is_equality : BinaryOperator → Bool
is_equality between.Multiply = false
is_equality between.Divide = false
is_equality between.Modulo = false
is_equality between.Add = false
is_equality between.Subtract = false
is_equality between.Equal = true
is_equality between.NotEqual = true
is_equality between.Less = false
is_equality between.LessEqual = false
is_equality between.Greater = false
is_equality between.GreaterEqual = false
is_equality between.And = false
is_equality between.Or = false
is_equality between.ExclusiveOr = false

abbrev pub is_relation : BinaryOperator → Bool
is_relation o = nat_eq (precedence_of o) 4

-- both are numbers, or both INTEGER
abbrev pub are_alike : Option ScalarType → Option ScalarType → Bool
are_alike a b = (may_be_number a && may_be_number b) || (may_be_integer a && may_be_integer b)

-- AND, OR and XOR take numbers; = and <> any kind, the same on both sides; the others numbers or INTEGERs
abbrev pub operands_fit : BinaryOperator → Option ScalarType → Option ScalarType → Bool
operands_fit o a b = cond (is_bitwise o) (may_be_number a && may_be_number b) (cond (is_equality o) (takes a b) (are_alike a b))

-- NOT takes a number, a sign an INTEGER too
abbrev pub unary_fits : UnaryOperator → Option ScalarType → Bool
unary_fits before.Not t = may_be_number t
unary_fits before.Plus t = may_count t
unary_fits before.Minus t = may_count t

-- ---- the types of values

-- a number up to 255 is a BYTE, up to 65,535 a WORD
abbrev pub number_type : ℕ → Option ScalarType
number_type n = cond (nat_le n 255) (Some Byte) (cond (nat_le n 65535) (Some Word) None)

-- a string of one character is a BYTE, of two a WORD
abbrev pub text_type : List ℕ → Option ScalarType
text_type [] = None
text_type (c ∷ []) = Some Byte
text_type (c ∷ d ∷ []) = Some Word
text_type (c ∷ d ∷ e ∷ others) = None

-- the type of two BYTEs together is BYTE, else WORD
abbrev pub wider : ScalarType → ScalarType → ScalarType
wider a b = cond (is_byte a && is_byte b) Byte Word

-- what is worked out of two numbers; a relation is not asked
abbrev pub number_result : BinaryOperator → ScalarType → ScalarType → ScalarType
number_result between.Multiply a b = Word
number_result between.Divide a b = wider a b
number_result between.Modulo a b = wider a b
number_result between.Add a b = wider a b
number_result between.Subtract a b = wider a b
number_result between.Equal a b = wider a b
number_result between.NotEqual a b = wider a b
number_result between.Less a b = wider a b
number_result between.LessEqual a b = wider a b
number_result between.Greater a b = wider a b
number_result between.GreaterEqual a b = wider a b
number_result between.And a b = wider a b
number_result between.Or a b = wider a b
number_result between.ExclusiveOr a b = wider a b

-- known to be INTEGER
abbrev pub is_integer : Option ScalarType → Bool
is_integer t = is_some t && may_be_integer t

-- relations answer 0FFH or 0; of INTEGERs a sum, difference, product, quotient and remainder is INTEGER
abbrev pub result_type : BinaryOperator → ScalarType → ScalarType → ScalarType
result_type o a b = cond (is_relation o) Byte (cond (is_integer (Some a)) Integer (number_result o a b))

abbrev pub both : (ScalarType → ScalarType → ScalarType) → Option ScalarType → Option ScalarType → Option ScalarType
both f (Some a) (Some b) = Some (f a b)
both f (Some a) None = None
both f None b = None

abbrev pub binary_type : BinaryOperator → Option ScalarType → Option ScalarType → Option ScalarType
binary_type o a b = cond (operands_fit o a b) (both (result_type o) a b) None

-- unary operators keep the type of their operand
abbrev pub unary_type : UnaryOperator → Option ScalarType → Option ScalarType
unary_type o t = cond (unary_fits o t) t None

-- ---- the types of several values

abbrev pub may_be_numbers : List (Option ScalarType) → Bool
may_be_numbers [] = true
may_be_numbers (t ∷ ts) = may_be_number t && may_be_numbers ts

abbrev pub may_be_integers : List (Option ScalarType) → Bool
may_be_integers [] = true
may_be_integers (t ∷ ts) = may_be_integer t && may_be_integers ts

-- subscripts
abbrev pub may_all_count : List (Option ScalarType) → Bool
may_all_count [] = true
may_all_count (t ∷ ts) = may_count t && may_all_count ts

abbrev pub are_known_counts : List (Option ScalarType) → Bool
are_known_counts [] = true
are_known_counts (t ∷ ts) = (is_some t && may_count t) && are_known_counts ts

-- some of them is INTEGER
abbrev pub has_integer : List (Option ScalarType) → Bool
has_integer [] = false
has_integer (t ∷ ts) = is_integer t || has_integer ts

abbrev pub may_be_pointers : List (Option ScalarType) → Bool
may_be_pointers [] = true
may_be_pointers (t ∷ ts) = may_be_pointer t && may_be_pointers ts

abbrev pub are_known : List (Option ScalarType) → Bool
are_known [] = true
are_known (t ∷ ts) = is_some t && are_known ts

-- ---- operators by their values

abbrev pub unary_operation : UnaryOperator → UnaryOperation
unary_operation before.Plus = unary.Plus
unary_operation before.Minus = unary.Minus
unary_operation before.Not = unary.Not

abbrev pub binary_operation : BinaryOperator → BinaryOperation
binary_operation between.Multiply = binary.Multiply
binary_operation between.Divide = binary.Divide
binary_operation between.Modulo = binary.Modulo
binary_operation between.Add = binary.Add
binary_operation between.Subtract = binary.Subtract
binary_operation between.Equal = binary.Equal
binary_operation between.NotEqual = binary.NotEqual
binary_operation between.Less = binary.Less
binary_operation between.LessEqual = binary.LessEqual
binary_operation between.Greater = binary.Greater
binary_operation between.GreaterEqual = binary.GreaterEqual
binary_operation between.And = binary.And
binary_operation between.Or = binary.Or
binary_operation between.ExclusiveOr = binary.ExclusiveOr

-- INTEGERs are divided and compared with their signs
abbrev pub with_sign : BinaryOperation → BinaryOperation
with_sign binary.Multiply = binary.Multiply
with_sign binary.Divide = binary.DivideSigned
with_sign binary.Modulo = binary.ModuloSigned
with_sign binary.Add = binary.Add
with_sign binary.Subtract = binary.Subtract
with_sign binary.Equal = binary.Equal
with_sign binary.NotEqual = binary.NotEqual
with_sign binary.Less = binary.LessSigned
with_sign binary.LessEqual = binary.LessEqualSigned
with_sign binary.Greater = binary.GreaterSigned
with_sign binary.GreaterEqual = binary.GreaterEqualSigned
with_sign binary.And = binary.And
with_sign binary.Or = binary.Or
with_sign binary.ExclusiveOr = binary.ExclusiveOr
with_sign binary.ShiftLeft = binary.ShiftLeft
with_sign binary.ShiftRight = binary.ShiftRight
with_sign binary.RotateLeft = binary.RotateLeft
with_sign binary.RotateRight = binary.RotateRight
with_sign binary.DivideSigned = binary.DivideSigned
with_sign binary.ModuloSigned = binary.ModuloSigned
with_sign binary.LessSigned = binary.LessSigned
with_sign binary.LessEqualSigned = binary.LessEqualSigned
with_sign binary.GreaterSigned = binary.GreaterSigned
with_sign binary.GreaterEqualSigned = binary.GreaterEqualSigned

-- an operator on operands of this type
abbrev pub operation_on : Option ScalarType → BinaryOperator → BinaryOperation
operation_on t o = cond (is_integer t) (with_sign (binary_operation o)) (binary_operation o)
