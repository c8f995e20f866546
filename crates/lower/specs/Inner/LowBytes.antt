-- The code of operators of one precedence of which the low byte is wanted: of those up to the last one that works on whole values the
-- whole value, of those after it the low byte.
use Rattle.std.specs.Prelude.{Bool, ℕ, suc, zero, ◌+◌, List, [], ◌∷◌, ◌++◌, Option, Some, None}
use Rattle.word86.specs.declared.width.Width.{Width}
use Rattle.word86.specs.declared.operation.UnaryOperation.{UnaryOperation}
use Rattle.word86.specs.declared.operation.BinaryOperation.{BinaryOperation}
use Rattle.plm_type.specs.declared.program.Operation.{Operation}
use Rattle.plm_type.specs.Rest.{Expression, Procedure}
use Rattle.plm_type.specs.View.{expression_of}
use Rattle.icode.specs.declared.instruction.Instruction.{Instruction}
use Rattle.icode.specs.declared.instruction.Instruction.TheVariants as op
use Rattle.icode.specs.declared.instruction.LowByte.TheVariants as lows
use Rattle.icode.specs.declared.instruction.High.TheVariants as highs
use Rattle.icode.specs.declared.instruction.Direct.{Direct}
use Rattle.lower.specs.Expressions.{unary_folded, folded, Operand, Number, Name, Computed, operand_of, beside}
use Rattle.lower.specs.LowBytes.{direct_of, low_operation, low_code, by_operator, low_changing, gives_by, is_byte}
use Rattle.lower.specs.Inner.Expressions.{unless_found, binary_value_of, operation_value, unknown_code, operation_code, chain_code}

-- whether operators of one precedence give a byte, by whether their first left operand is one
abbrev pub bytes_from : Bool → List Operation → Bool
bytes_from b [] = b
bytes_from b (o ∷ os) = bytes_from (gives_by (direct_of o.operation) o.width b (is_byte (expression_of o.operand))) os

-- this operator is counted where one after it is, or where it is none on low bytes
abbrev pub counted_whole : (after : ℕ) → Option Direct → ℕ
counted_whole zero (Some d) = 0
counted_whole zero None = 1
counted_whole (suc n) d = suc (suc n)

abbrev pub whole_count : List Operation → ℕ
whole_count [] = 0
whole_count (o ∷ os) = counted_whole (whole_count os) (direct_of o.operation)

-- how many are counted of the first ones, with one more of this index
abbrev pub counted_one : (index so_far : ℕ) → Option Direct → ℕ
counted_one i c (Some d) = c
counted_one i c None = i + 1

-- the low byte of a known value comes into the accumulator
abbrev pub low_given : Option ℕ → List Instruction
low_given (Some k) = op.Low (lows.Constant k) highs.Kept ∷ []
low_given None = []

-- what is computed of a right operand, while the left one is pushed
abbrev pub low_beside : (left : Option ℕ) → Operand → List Instruction → List Instruction
low_beside left (Number k) code = []
low_beside left (Name read x) code = []
low_beside left Computed code = low_given left ++ op.Push ∷ code

-- an operator on low bytes after its left operand, with its right one
abbrev pub low_code_of : (left : Option ℕ) → Direct → BinaryOperation → Width → Operand → List Instruction → List Instruction
low_code_of left d o width right code = unless_found (binary_value_of left o width right) (low_given left ++ (beside right code ++ low_operation d o right ∷ []))

-- what is done to an operand whose value, if it is known, is this: what of it is known needs no code
abbrev pub low_unary_code : UnaryOperation → Width → (operand : Option ℕ) → List Instruction
low_unary_code o width operand = unless_found (unary_folded o width operand) (low_changing o ∷ [])

-- a byte from a port, whose number is in the accumulator or known
abbrev pub low_received : (port : Option ℕ) → Instruction
low_received (Some port) = op.Low (lows.ReceiveFrom port) highs.Kept
low_received None = op.Low lows.Receive highs.Kept

module _ (procedures : List Procedure) where
  -- the code of an expression whose value is not known
  abbrev pub low_unknown_code : Expression → List Instruction
  low_unknown_code e = unless_found (folded e) (low_code procedures e)

  abbrev pub low_operation_code : (left : Option ℕ) → Operation → List Instruction
  low_operation_code left o =
      by_operator (direct_of o.operation)
      (λ d. low_code_of left d o.operation o.width (operand_of (expression_of o.operand)) (low_code procedures (expression_of o.operand)))
      (operation_code procedures left o)

  abbrev pub low_chain_code : (left : Option ℕ) → List Operation → List Instruction
  low_chain_code left [] = []
  low_chain_code left (o ∷ os) = low_operation_code left o ++ low_chain_code (operation_value left o) os

  -- a left operand and operators of whole values: without these its low byte is enough
  abbrev pub left_code : Expression → List Operation → List Instruction
  left_code e [] = low_unknown_code e
  left_code e (o ∷ os) = unknown_code procedures e ++ chain_code procedures (folded e) (o ∷ os)
