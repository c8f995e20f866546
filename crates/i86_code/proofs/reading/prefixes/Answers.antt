use Rattle.std.proofs.Common.{arith}
use Rattle.std.proofs.lemmas.Grind.{common_steps}
use Rattle.i86_code.specs.Reading.{prefixes_at}
use Rattle.i86_code.proofs.reading.prefixes.Goals as goal

pub returns-in_default : goal.returns-in_default
unfolding prefixes_at
returns-in_default c = grind (arith, common_steps)

pub returns-in_default-rest : goal.returns-in_default-rest
unfolding prefixes_at
returns-in_default-rest c = grind (arith, common_steps)

pub returns-in-Some : goal.returns-in-Some
unfolding prefixes_at
returns-in-Some c = grind (arith, common_steps)

pub returns-in-None : goal.returns-in-None
unfolding prefixes_at
returns-in-None c = grind (arith, common_steps)

pub returns-in_default-segment : goal.returns-in_default-segment
unfolding prefixes_at
returns-in_default-segment c = grind (arith, common_steps)

pub returns-in-243 : goal.returns-in-243
unfolding prefixes_at
returns-in-243 c = grind (arith, common_steps)

pub returns-in_default-rest-2 : goal.returns-in_default-rest-2
unfolding prefixes_at
returns-in_default-rest-2 c = grind (arith, common_steps)
