-- Number expressions: what has numbers as its only operands, and only signs, + - * / MOD and parentheses between them. Beside an
-- INTEGER, and where one is wanted, it is INTEGER throughout.
use Rattle.std.specs.Prelude.{ℕ, Bool, true, false, ◌&&◌, nat_eq, nat_le, cond, List, [], Option}
use Rattle.word86.specs.declared.width.Width.TheVariants as width
use Rattle.word86.specs.declared.number.Number.TheVariants.{E401}
use Rattle.plm_syntax.specs.declared.tree.Position.{Position}
use Rattle.plm_syntax.specs.declared.tree.UnaryOperator.{UnaryOperator}
use Rattle.plm_syntax.specs.declared.tree.UnaryOperator.TheVariants as before
use Rattle.plm_syntax.specs.declared.tree.BinaryOperator.{BinaryOperator}
use Rattle.plm_decl.specs.declared.layout.ScalarType.{ScalarType}
use Rattle.plm_decl.specs.declared.found.Found.{Found}
use Rattle.plm_type.specs.declared.numbers.Numbers.{Numbers}
use Rattle.plm_type.specs.declared.numbers.Numbers.TheVariants.{Other, Fits, Least, Beyond}
use Rattle.plm_type.specs.Rest.{Expression, Constant, Plain, Variable, Location, Unary, Binary, Embedded, Input, Call, Value, Passing, Running}
use Rattle.plm_type.specs.Types.{is_bitwise, is_relation, is_integer, with_sign}
use Rattle.plm_type.specs.Faults.{fault_unless}

-- ---- what is said of an expression: Other, it has other operands than numbers. Fits: a number expression, whose numbers an INTEGER
-- can have. Least: 32,768 alone, at this place, which one can have directly after a minus. Beyond: a number expression; at this place
-- stands the first number that no INTEGER can have.

abbrev pub of_number : ℕ → Position → Numbers
of_number n p = cond (nat_le n 32767) Fits (cond (nat_eq n 32768) (Least p) (Beyond p))

-- an operand that stands not directly after a minus
abbrev pub settled : Numbers → Numbers
settled Other = Other
settled Fits = Fits
settled (Least p) = Beyond p
settled (Beyond p) = Beyond p

abbrev pub after_minus : Numbers → Numbers
after_minus Other = Other
after_minus Fits = Fits
after_minus (Least p) = Fits
after_minus (Beyond p) = Beyond p

abbrev pub signed_by : UnaryOperator → Numbers → Numbers
signed_by before.Minus x = after_minus x
signed_by before.Plus x = settled x
signed_by before.Not x = Other

abbrev pub is_number_expression : Numbers → Bool
is_number_expression Other = false
is_number_expression Fits = true
is_number_expression (Least p) = true
is_number_expression (Beyond p) = true

-- an INTEGER can have its numbers
abbrev pub fits : Numbers → Bool
fits Other = false
fits Fits = true
fits (Least p) = false
fits (Beyond p) = false

-- the left operand's numbers stand first
abbrev pub joined : Numbers → Numbers → Numbers
joined Other b = Other
joined Fits b = b
joined (Least p) b = cond (is_number_expression b) (Least p) Other
joined (Beyond p) b = cond (is_number_expression b) (Beyond p) Other

abbrev pub is_arithmetic : BinaryOperator → Bool
is_arithmetic o = cond (is_bitwise o) false (cond (is_relation o) false true)

abbrev pub both_numbers : BinaryOperator → Numbers → Numbers → Numbers
both_numbers o a b = cond (is_arithmetic o) (joined (settled a) (settled b)) Other

-- ---- a number expression as an INTEGER

-- words throughout, divided with their signs
abbrev pub integer_of : Expression → Expression
integer_of (Constant k) = Constant k
integer_of (Plain w x) = Plain w x
integer_of (Variable w r) = Variable w r
integer_of (Location r) = Location r
integer_of (Unary o w e) = Unary o width.Word (integer_of e)
integer_of (Binary m l o w a b) = Binary m l (with_sign o) width.Word (integer_of a) (integer_of b)
integer_of (Embedded x e) = Embedded x e
integer_of (Input w e) = Input w e
integer_of (Call p es) = Call p es
integer_of (Value v) = Value v
integer_of (Passing p xs vs) = Passing p xs vs
integer_of (Running ss) = Running ss

-- whether an expression turns INTEGER where a value of this type is wanted
abbrev pub turns : Option ScalarType → Numbers → Bool
turns t x = is_integer t && is_number_expression x

-- in the module of this number: the first number that no INTEGER can have
abbrev pub range_faults : (module_index : ℕ) → Numbers → List Found
range_faults module_index Other = []
range_faults module_index Fits = []
range_faults module_index (Least p) = fault_unless module_index false E401 p
range_faults module_index (Beyond p) = fault_unless module_index false E401 p
