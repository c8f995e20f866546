use Rattle.std.proofs.Common.{arith}
use Rattle.std.proofs.lemmas.Grind.{common_steps}
use Rattle.i86_code.specs.Instructions.{byte_instruction}
use Rattle.i86_code.proofs.instructions.with_byte.Goals as goal

pub returns-in-AluAccumulator-default-Byte : goal.returns-in-AluAccumulator-default-Byte
unfolding byte_instruction
returns-in-AluAccumulator-default-Byte c = grind (arith, common_steps)

pub returns-in-TestAccumulator-Byte : goal.returns-in-TestAccumulator-Byte
unfolding byte_instruction
returns-in-TestAccumulator-Byte c = grind (arith, common_steps)

pub returns-in-MoveRegisterByte : goal.returns-in-MoveRegisterByte
unfolding byte_instruction
returns-in-MoveRegisterByte c = grind (arith, common_steps)

pub returns-in-JumpIf : goal.returns-in-JumpIf
unfolding byte_instruction
returns-in-JumpIf c = grind (arith, common_steps)

pub returns-in-Loop : goal.returns-in-Loop
unfolding byte_instruction
returns-in-Loop c = grind (arith, common_steps)

pub returns-in-JumpIfCxZero : goal.returns-in-JumpIfCxZero
unfolding byte_instruction
returns-in-JumpIfCxZero c = grind (arith, common_steps)

pub returns-in-JumpShort : goal.returns-in-JumpShort
unfolding byte_instruction
returns-in-JumpShort c = grind (arith, common_steps)

pub returns-in-InFixed : goal.returns-in-InFixed
unfolding byte_instruction
returns-in-InFixed c = grind (arith, common_steps)

pub returns-in-OutFixed : goal.returns-in-OutFixed
unfolding byte_instruction
returns-in-OutFixed c = grind (arith, common_steps)

pub returns-in_default : goal.returns-in_default
unfolding byte_instruction
returns-in_default c = grind (arith, common_steps)

pub returns-in_default-2 : goal.returns-in_default-2
unfolding byte_instruction
returns-in_default-2 c = grind (arith, common_steps)

pub returns-in_default-3 : goal.returns-in_default-3
unfolding byte_instruction
returns-in_default-3 c = grind (arith, common_steps)
