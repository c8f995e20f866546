use Rattle.std.proofs.Common.{arith}
use Rattle.std.proofs.lemmas.Grind.{common_steps}
use Rattle.i86_code.specs.Instructions.{addressed_instruction}
use Rattle.i86_code.proofs.instructions.addressed.Goals as goal

pub returns-in_err-operation-in-Shift-Byte-default : goal.returns-in_err-operation-in-Shift-Byte-default
unfolding addressed_instruction
returns-in_err-operation-in-Shift-Byte-default c = grind (arith, common_steps)

pub returns-in_err-operation-in-Shift-Word-default : goal.returns-in_err-operation-in-Shift-Word-default
unfolding addressed_instruction
returns-in_err-operation-in-Shift-Word-default c = grind (arith, common_steps)

pub returns-in-AluToPlace-default-Byte : goal.returns-in-AluToPlace-default-Byte
unfolding addressed_instruction
returns-in-AluToPlace-default-Byte c = grind (arith, common_steps)

pub returns-in-AluToPlace-default-Word : goal.returns-in-AluToPlace-default-Word
unfolding addressed_instruction
returns-in-AluToPlace-default-Word c = grind (arith, common_steps)

pub returns-in-AluToRegister-default-Byte : goal.returns-in-AluToRegister-default-Byte
unfolding addressed_instruction
returns-in-AluToRegister-default-Byte c = grind (arith, common_steps)

pub returns-in-AluToRegister-default-Word : goal.returns-in-AluToRegister-default-Word
unfolding addressed_instruction
returns-in-AluToRegister-default-Word c = grind (arith, common_steps)

pub returns-in-Test-Byte : goal.returns-in-Test-Byte
unfolding addressed_instruction
returns-in-Test-Byte c = grind (arith, common_steps)

pub returns-in-Test-Word : goal.returns-in-Test-Word
unfolding addressed_instruction
returns-in-Test-Word c = grind (arith, common_steps)

pub returns-in-Exchange-Byte : goal.returns-in-Exchange-Byte
unfolding addressed_instruction
returns-in-Exchange-Byte c = grind (arith, common_steps)

pub returns-in-Exchange-Word : goal.returns-in-Exchange-Word
unfolding addressed_instruction
returns-in-Exchange-Word c = grind (arith, common_steps)

pub returns-in-MoveToPlace-Byte : goal.returns-in-MoveToPlace-Byte
unfolding addressed_instruction
returns-in-MoveToPlace-Byte c = grind (arith, common_steps)

pub returns-in-MoveToPlace-Word : goal.returns-in-MoveToPlace-Word
unfolding addressed_instruction
returns-in-MoveToPlace-Word c = grind (arith, common_steps)

pub returns-in-MoveToRegister-Byte : goal.returns-in-MoveToRegister-Byte
unfolding addressed_instruction
returns-in-MoveToRegister-Byte c = grind (arith, common_steps)

pub returns-in-MoveToRegister-Word : goal.returns-in-MoveToRegister-Word
unfolding addressed_instruction
returns-in-MoveToRegister-Word c = grind (arith, common_steps)

pub returns-in-LoadAddress : goal.returns-in-LoadAddress
unfolding addressed_instruction
returns-in-LoadAddress c = grind (arith, common_steps)

pub returns-in-MoveToSegment : goal.returns-in-MoveToSegment
unfolding addressed_instruction
returns-in-MoveToSegment c = grind (arith, common_steps)

pub returns-in_ok-operation-in-Shift-Byte-default : goal.returns-in_ok-operation-in-Shift-Byte-default
unfolding addressed_instruction
returns-in_ok-operation-in-Shift-Byte-default c = grind (arith, common_steps)

pub returns-in_ok-operation-in-Shift-Word-default : goal.returns-in_ok-operation-in-Shift-Word-default
unfolding addressed_instruction
returns-in_ok-operation-in-Shift-Word-default c = grind (arith, common_steps)

pub returns-in-StepGroup-Byte : goal.returns-in-StepGroup-Byte
unfolding addressed_instruction
returns-in-StepGroup-Byte c = grind (arith, common_steps)

pub returns-in-StepGroup-Word : goal.returns-in-StepGroup-Word
unfolding addressed_instruction
returns-in-StepGroup-Word c = grind (arith, common_steps)

pub returns-in_default : goal.returns-in_default
unfolding addressed_instruction
returns-in_default c = grind (arith, common_steps)
