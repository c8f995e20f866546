-- The code of operators of one precedence after a left operand, which is in the accumulator or known, of arguments and of targets.
use Rattle.std.specs.Prelude.{ℕ, List, [], ◌∷◌, ◌++◌, Option, Some, None}
use Rattle.word86.specs.declared.width.Width.{Width}
use Rattle.word86.specs.declared.operation.UnaryOperation.{UnaryOperation}
use Rattle.word86.specs.declared.operation.BinaryOperation.{BinaryOperation}
use Rattle.plm_type.specs.declared.program.Operation.{Operation}
use Rattle.plm_type.specs.declared.program.Target as declared_target
use Rattle.plm_type.specs.Rest.{Expression, Scalar, Procedure}
use Rattle.plm_type.specs.View.{expression_of, target_of}
use Rattle.icode.specs.declared.instruction.Instruction.{Instruction}
use Rattle.icode.specs.declared.instruction.Instruction.TheVariants as op
use Rattle.lower.specs.Expressions.{unary_folded, binary_folded, folded, Operand, Number, Name, Computed, operand_of, beside, operation, argument_code, second_passed, expression_code, target_code}

-- what is known before any run needs no code
abbrev pub unless_found : Option ℕ → List Instruction → List Instruction
unless_found (Some k) code = []
unless_found None code = code

-- a known value comes into the accumulator
abbrev pub given : Option ℕ → List Instruction
given (Some k) = op.Constant k ∷ []
given None = []

abbrev pub unary_code : UnaryOperation → Width → (operand : Option ℕ) → List Instruction
unary_code o width operand = unless_found (unary_folded o width operand) (op.Unary o width ∷ [])

-- what is computed of a right operand, while the left one is pushed
abbrev pub computed_beside : (left : Option ℕ) → Operand → List Instruction → List Instruction
computed_beside left (Number k) code = []
computed_beside left (Name read x) code = []
computed_beside left Computed code = given left ++ op.Push ∷ code

-- an operator after its left operand, with its right one
abbrev pub binary_value_of : (left : Option ℕ) → BinaryOperation → Width → Operand → Option ℕ
binary_value_of left o width (Number k) = binary_folded o width left (Some k)
binary_value_of left o width (Name read x) = None
binary_value_of left o width Computed = None

abbrev pub binary_code_of : (left : Option ℕ) → BinaryOperation → Width → Operand → List Instruction → List Instruction
binary_code_of left o width right code = unless_found (binary_value_of left o width right) (given left ++ (beside right code ++ operation o width right ∷ []))

-- the value of a port, whose number is in the accumulator or known
abbrev pub received : Width → (port : Option ℕ) → Instruction
received width (Some port) = op.ReceiveFrom width port
received width None = op.Receive width

-- a port, whose number is known or has this code, gets the value in the accumulator
abbrev pub sent : Width → (port : Option ℕ) → List Instruction → List Instruction
sent width (Some port) code = op.SendTo width port ∷ []
sent width None code = op.Push ∷ (code ++ op.Send width ∷ [])

-- what two parameters get of the first of two arguments and of the other one
abbrev pub first_passed : List Scalar → Operand → List Instruction → List Instruction
first_passed [] o code = []
first_passed (x ∷ []) o code = []
first_passed (x ∷ y ∷ xs) o code = argument_code x.width o code

abbrev pub other_passed : List Scalar → Operand → List Instruction → List Instruction
other_passed [] o code = []
other_passed (x ∷ []) o code = []
other_passed (x ∷ y ∷ xs) o code = second_passed x y o code

abbrev pub operation_value : (left : Option ℕ) → Operation → Option ℕ
operation_value left o = binary_value_of left o.operation o.width (operand_of (expression_of o.operand))

abbrev pub chain_value : (left : Option ℕ) → List Operation → Option ℕ
chain_value left [] = left
chain_value left (o ∷ os) = chain_value (operation_value left o) os

module _ (procedures : List Procedure) where
  -- the code of an expression whose value is not known
  abbrev pub unknown_code : Expression → List Instruction
  unknown_code e = unless_found (folded e) (expression_code procedures e)

  abbrev pub operation_code : (left : Option ℕ) → Operation → List Instruction
  operation_code left o = binary_code_of left o.operation o.width (operand_of (expression_of o.operand)) (expression_code procedures (expression_of o.operand))

  abbrev pub chain_code : (left : Option ℕ) → List Operation → List Instruction
  chain_code left [] = []
  chain_code left (o ∷ os) = operation_code left o ++ chain_code (operation_value left o) os

  -- the targets after the first one
  abbrev pub others_code : List declared_target.Target → List Instruction
  others_code [] = []
  others_code (t ∷ ts) = target_code procedures (target_of t) ++ others_code ts
