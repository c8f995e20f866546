use Rattle.std.proofs.Common.{arith}
use Rattle.std.proofs.lemmas.Grind.{common_steps}
use Rattle.i86_code.specs.Instructions.{addressed_byte_instruction}
use Rattle.i86_code.proofs.instructions.addressed_byte.Goals as goal

pub returns-in-AluImmediate-Byte : goal.returns-in-AluImmediate-Byte
unfolding addressed_byte_instruction
returns-in-AluImmediate-Byte c = grind (arith, common_steps)

pub returns-in-AluShort : goal.returns-in-AluShort
unfolding addressed_byte_instruction
returns-in-AluShort c = grind (arith, common_steps)

pub returns-in-MoveImmediate-Byte : goal.returns-in-MoveImmediate-Byte
unfolding addressed_byte_instruction
returns-in-MoveImmediate-Byte c = grind (arith, common_steps)

pub returns-in_default : goal.returns-in_default
unfolding addressed_byte_instruction
returns-in_default c = grind (arith, common_steps)

pub returns-in_default-2 : goal.returns-in_default-2
unfolding addressed_byte_instruction
returns-in_default-2 c = grind (arith, common_steps)

pub returns-in_default-3 : goal.returns-in_default-3
unfolding addressed_byte_instruction
returns-in_default-3 c = grind (arith, common_steps)

pub returns-in_default-4 : goal.returns-in_default-4
unfolding addressed_byte_instruction
returns-in_default-4 c = grind (arith, common_steps)

pub returns-in_default-5 : goal.returns-in_default-5
unfolding addressed_byte_instruction
returns-in_default-5 c = grind (arith, common_steps)
