-- The operators of expressions and their values, as whole numbers with a remainder.
use Rattle.std.specs.Prelude.{ℕ, zero, suc, ◌+◌, ◌-◌, ◌*◌, ◌/◌, ◌%◌, ◌^◌, Bool, true, false, not, nat_eq, nat_lt, nat_le, Option, Some, None}
use Rattle.std.specs.Int.Bits.{bit_and, bit_or, bit_xor}
use Rattle.word86.specs.declared.width.Width.{Width}
use Rattle.word86.specs.declared.operation.UnaryOperation.{UnaryOperation}
use Rattle.word86.specs.declared.operation.UnaryOperation.TheVariants.{Plus, Minus, Not, Low, High, Double}
use Rattle.word86.specs.declared.operation.BinaryOperation.{BinaryOperation}
use Rattle.word86.specs.declared.operation.BinaryOperation.TheVariants.{Multiply, Divide, Modulo, Add, Subtract, Equal, NotEqual, Less, LessEqual, Greater, GreaterEqual, And, Or, ExclusiveOr, ShiftLeft, ShiftRight, RotateLeft, RotateRight, DivideSigned, ModuloSigned, LessSigned, LessEqualSigned, GreaterSigned, GreaterEqualSigned}
use Rattle.word86.specs.Arithmetic.{low, rotated_left, rotated_right}
use Rattle.word86.specs.Signed.{signed_quotient, signed_remainder, signed_less}

-- what a relation answers
abbrev pub truth : Bool → ℕ
truth true = 255
truth false = 0

-- of an operand of this width; minus is zero less the operand
abbrev pub unary_value : UnaryOperation → Width → ℕ → ℕ
unary_value Plus width v = v
unary_value Minus width v = low width (65536 - v)
unary_value Not width v = low width (65535 - v)
unary_value Low width v = v % 256
unary_value High width v = v / 256
unary_value Double width v = v

-- without sign there is no quotient, and no remainder, exactly by zero
abbrev pub quotient : ℕ → ℕ → Option ℕ
quotient x zero = None
quotient x (suc y) = Some (x / suc y)

abbrev pub remainder : ℕ → ℕ → Option ℕ
remainder x zero = None
remainder x (suc y) = Some (x % suc y)

-- a value of this width, and none where there is no quotient; a shift's count is the low byte of its second operand
abbrev pub binary_value : BinaryOperation → Width → ℕ → ℕ → Option ℕ
binary_value Multiply width x y = Some (low width (x * y))
binary_value Divide width x y = quotient x y
binary_value Modulo width x y = remainder x y
binary_value Add width x y = Some (low width (x + y))
binary_value Subtract width x y = Some (low width (x + 65536 - y))
binary_value Equal width x y = Some (truth (nat_eq x y))
binary_value NotEqual width x y = Some (truth (not (nat_eq x y)))
binary_value Less width x y = Some (truth (nat_lt x y))
binary_value LessEqual width x y = Some (truth (nat_le x y))
binary_value Greater width x y = Some (truth (nat_lt y x))
binary_value GreaterEqual width x y = Some (truth (nat_le y x))
binary_value And width x y = Some (bit_and x y)
binary_value Or width x y = Some (bit_or x y)
binary_value ExclusiveOr width x y = Some (bit_xor x y)
binary_value ShiftLeft width x y = Some (low width (x * 2 ^ (y % 256)))
binary_value ShiftRight width x y = Some (low width x / 2 ^ (y % 256))
binary_value RotateLeft width x y = Some (rotated_left width x (y % 256))
binary_value RotateRight width x y = Some (rotated_right width x (y % 256))
-- Of words with sign, whatever the width. Their sums, differences, products, = and <> are those of other words.
binary_value DivideSigned width x y = signed_quotient x y
binary_value ModuloSigned width x y = signed_remainder x y
binary_value LessSigned width x y = Some (truth (signed_less x y))
binary_value LessEqualSigned width x y = Some (truth (not (signed_less y x)))
binary_value GreaterSigned width x y = Some (truth (signed_less y x))
binary_value GreaterEqualSigned width x y = Some (truth (not (signed_less x y)))
