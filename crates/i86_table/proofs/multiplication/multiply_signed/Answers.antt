use Rattle.std.proofs.Common.{arith}
use Rattle.std.proofs.lemmas.Grind.{common_steps}
use Rattle.i86_table.specs.Arithmetic.{multiplied}
use Rattle.i86_table.proofs.multiplication.multiply_signed.Goals as goal

pub returns-clause-value : goal.returns-clause-value
unfolding multiplied
returns-clause-value c = grind (arith, common_steps)

pub returns-clause-fits : goal.returns-clause-fits
unfolding multiplied
returns-clause-fits c = grind (arith, common_steps)
