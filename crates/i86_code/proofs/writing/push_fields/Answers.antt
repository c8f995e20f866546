use Rattle.std.proofs.Common.{arith}
use Rattle.std.proofs.lemmas.Grind.{common_steps}
use Rattle.i86_code.proofs.writing.push_fields.Goals as goal

pub returns-in-Nothing : goal.returns-in-Nothing
returns-in-Nothing c = grind (arith, common_steps)

pub returns-in-Byte : goal.returns-in-Byte
returns-in-Byte c = grind (arith, common_steps)

pub returns-in-Word : goal.returns-in-Word
returns-in-Word c = grind (arith, common_steps)

pub returns-in-TwoWords : goal.returns-in-TwoWords
returns-in-TwoWords c = grind (arith, common_steps)

pub returns-in-AddressByte : goal.returns-in-AddressByte
returns-in-AddressByte c = grind (arith, common_steps)

pub returns-in-AddressWord : goal.returns-in-AddressWord
returns-in-AddressWord c = grind (arith, common_steps)

pub returns-in-TestByte : goal.returns-in-TestByte
returns-in-TestByte c = grind (arith, common_steps)

pub returns-in-TestWord : goal.returns-in-TestWord
returns-in-TestWord c = grind (arith, common_steps)

pub returns-in-Address : goal.returns-in-Address
returns-in-Address c = grind (arith, common_steps)
