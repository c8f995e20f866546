use Rattle.std.proofs.Common.{arith}
use Rattle.std.proofs.lemmas.Grind.{common_steps}
use Rattle.i86_code.specs.Reading.{place_at}
use Rattle.i86_code.proofs.reading.place.Goals as goal

pub returns-in_default : goal.returns-in_default
unfolding place_at
returns-in_default c = grind (arith, common_steps)

pub returns-in_err-offset-in-0 : goal.returns-in_err-offset-in-0
unfolding place_at
returns-in_err-offset-in-0 c = grind (arith, common_steps)

pub returns-in_err-displacement-in-1 : goal.returns-in_err-displacement-in-1
unfolding place_at
returns-in_err-displacement-in-1 c = grind (arith, common_steps)

pub returns-in_err-displacement-in-2 : goal.returns-in_err-displacement-in-2
unfolding place_at
returns-in_err-displacement-in-2 c = grind (arith, common_steps)

pub returns-in_ok-offset-in-0 : goal.returns-in_ok-offset-in-0
unfolding place_at
returns-in_ok-offset-in-0 c = grind (arith, common_steps)

pub returns-in-0-2 : goal.returns-in-0-2
unfolding place_at
returns-in-0-2 c = grind (arith, common_steps)

pub returns-in_ok-displacement-in-1 : goal.returns-in_ok-displacement-in-1
unfolding place_at
returns-in_ok-displacement-in-1 c = grind (arith, common_steps)

pub returns-in_ok-displacement-in-2 : goal.returns-in_ok-displacement-in-2
unfolding place_at
returns-in_ok-displacement-in-2 c = grind (arith, common_steps)

pub returns-in_default-2 : goal.returns-in_default-2
unfolding place_at
returns-in_default-2 c = grind (arith, common_steps)
