use Rattle.std.proofs.Common.{arith}
use Rattle.std.proofs.lemmas.Grind.{common_steps}
use Rattle.i86_code.specs.Instructions.{instruction_from}
use Rattle.i86_code.proofs.instructions.instruction_from.Goals as goal

pub returns-in-Nothing : goal.returns-in-Nothing
unfolding instruction_from
returns-in-Nothing c = grind (arith, common_steps)

pub returns-in-Byte : goal.returns-in-Byte
unfolding instruction_from
returns-in-Byte c = grind (arith, common_steps)

pub returns-in-Word : goal.returns-in-Word
unfolding instruction_from
returns-in-Word c = grind (arith, common_steps)

pub returns-in-TwoWords : goal.returns-in-TwoWords
unfolding instruction_from
returns-in-TwoWords c = grind (arith, common_steps)

pub returns-in-Address : goal.returns-in-Address
unfolding instruction_from
returns-in-Address c = grind (arith, common_steps)

pub returns-in-AddressByte : goal.returns-in-AddressByte
unfolding instruction_from
returns-in-AddressByte c = grind (arith, common_steps)

pub returns-in-AddressWord : goal.returns-in-AddressWord
unfolding instruction_from
returns-in-AddressWord c = grind (arith, common_steps)

pub returns-in-Unary : goal.returns-in-Unary
unfolding instruction_from
returns-in-Unary c = grind (arith, common_steps)

pub returns-in-TestByte : goal.returns-in-TestByte
unfolding instruction_from
returns-in-TestByte c = grind (arith, common_steps)

pub returns-in-TestWord : goal.returns-in-TestWord
unfolding instruction_from
returns-in-TestWord c = grind (arith, common_steps)
