-- Operators with their right operands, turned INTEGER one after the other.
use Rattle.std.specs.Prelude.{ℕ, zero, suc, List, [], ◌∷◌, map}
use Rattle.word86.specs.declared.width.Width.{Width}
use Rattle.word86.specs.declared.width.Width.TheVariants as width
use Rattle.word86.specs.declared.operation.BinaryOperation.{BinaryOperation}
use Rattle.plm_type.specs.declared.program.Operation as declared
use Rattle.plm_type.specs.declared.program.Line.{Line}
use Rattle.plm_type.specs.Rest.{Expression}
use Rattle.plm_type.specs.Types.{with_sign}
use Rattle.plm_type.specs.Numbers.{integer_of}
use Rattle.plm_type.specs.View.{expression_of}

pub record Operation : Type 0 where
  pub line : Line
  pub operation : BinaryOperation
  pub width : Width
  pub operand : Expression

abbrev pub operation_of : declared.Operation → Operation
operation_of o = record { line = o.line; operation = o.operation; width = o.width; operand = expression_of o.operand }

abbrev pub operations_of : List declared.Operation → List Operation
operations_of os = map operation_of os

abbrev pub turned : Operation → Operation
turned o = record { line = o.line; operation = with_sign o.operation; width = width.Word; operand = integer_of o.operand }

abbrev pub all_turned : List Operation → List Operation
all_turned [] = []
all_turned (o ∷ os) = turned o ∷ all_turned os

-- so many of them
abbrev pub turned_first : ℕ → List Operation → List Operation
turned_first zero os = os
turned_first (suc n) [] = []
turned_first (suc n) (o ∷ os) = turned o ∷ turned_first n os
