use Rattle.std.proofs.Common.{arith}
use Rattle.std.proofs.lemmas.Grind.{common_steps}
use Rattle.i86_code.specs.Instructions.{addressed_word_instruction}
use Rattle.i86_code.proofs.instructions.addressed_word.Goals as goal

pub returns-in-AluImmediate-Word : goal.returns-in-AluImmediate-Word
unfolding addressed_word_instruction
returns-in-AluImmediate-Word c = grind (arith, common_steps)

pub returns-in-MoveImmediate-Word : goal.returns-in-MoveImmediate-Word
unfolding addressed_word_instruction
returns-in-MoveImmediate-Word c = grind (arith, common_steps)

pub returns-in_default : goal.returns-in_default
unfolding addressed_word_instruction
returns-in_default c = grind (arith, common_steps)

pub returns-in_default-2 : goal.returns-in_default-2
unfolding addressed_word_instruction
returns-in_default-2 c = grind (arith, common_steps)

pub returns-in_default-3 : goal.returns-in_default-3
unfolding addressed_word_instruction
returns-in_default-3 c = grind (arith, common_steps)

pub returns-in_default-4 : goal.returns-in_default-4
unfolding addressed_word_instruction
returns-in_default-4 c = grind (arith, common_steps)
