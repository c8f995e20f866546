use Rattle.std.proofs.Common.{arith}
use Rattle.std.proofs.lemmas.Grind.{common_steps}
use Rattle.i86_code.specs.Instructions.{word_instruction}
use Rattle.i86_code.proofs.instructions.with_word.Goals as goal

pub returns-in-AluAccumulator-default-Word : goal.returns-in-AluAccumulator-default-Word
unfolding word_instruction
returns-in-AluAccumulator-default-Word c = grind (arith, common_steps)

pub returns-in-TestAccumulator-Word : goal.returns-in-TestAccumulator-Word
unfolding word_instruction
returns-in-TestAccumulator-Word c = grind (arith, common_steps)

pub returns-in-MoveRegisterWord : goal.returns-in-MoveRegisterWord
unfolding word_instruction
returns-in-MoveRegisterWord c = grind (arith, common_steps)

pub returns-in-MoveFromDirect-Byte : goal.returns-in-MoveFromDirect-Byte
unfolding word_instruction
returns-in-MoveFromDirect-Byte c = grind (arith, common_steps)

pub returns-in-MoveFromDirect-Word : goal.returns-in-MoveFromDirect-Word
unfolding word_instruction
returns-in-MoveFromDirect-Word c = grind (arith, common_steps)

pub returns-in-MoveToDirect-Byte : goal.returns-in-MoveToDirect-Byte
unfolding word_instruction
returns-in-MoveToDirect-Byte c = grind (arith, common_steps)

pub returns-in-MoveToDirect-Word : goal.returns-in-MoveToDirect-Word
unfolding word_instruction
returns-in-MoveToDirect-Word c = grind (arith, common_steps)

pub returns-in-ReturnDropping : goal.returns-in-ReturnDropping
unfolding word_instruction
returns-in-ReturnDropping c = grind (arith, common_steps)

pub returns-in-Call : goal.returns-in-Call
unfolding word_instruction
returns-in-Call c = grind (arith, common_steps)

pub returns-in-Jump : goal.returns-in-Jump
unfolding word_instruction
returns-in-Jump c = grind (arith, common_steps)

pub returns-in_default : goal.returns-in_default
unfolding word_instruction
returns-in_default c = grind (arith, common_steps)

pub returns-in_default-2 : goal.returns-in_default-2
unfolding word_instruction
returns-in_default-2 c = grind (arith, common_steps)

pub returns-in_default-3 : goal.returns-in_default-3
unfolding word_instruction
returns-in_default-3 c = grind (arith, common_steps)
