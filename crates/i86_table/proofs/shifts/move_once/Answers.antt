use Rattle.std.proofs.Common.{arith}
use Rattle.std.proofs.lemmas.Grind.{common_steps}
use Rattle.i86_table.proofs.shifts.move_once.Goals as goal

pub returns-in-Rol-clause-value : goal.returns-in-Rol-clause-value
returns-in-Rol-clause-value c = grind (arith, common_steps)

pub returns-in-Rol-clause-fits : goal.returns-in-Rol-clause-fits
returns-in-Rol-clause-fits c = grind (arith, common_steps)

pub returns-in-Ror-clause-value : goal.returns-in-Ror-clause-value
returns-in-Ror-clause-value c = grind (arith, common_steps)

pub returns-in-Ror-clause-fits : goal.returns-in-Ror-clause-fits
returns-in-Ror-clause-fits c = grind (arith, common_steps)

pub returns-in-Shl-clause-value : goal.returns-in-Shl-clause-value
returns-in-Shl-clause-value c = grind (arith, common_steps)

pub returns-in-Shl-clause-fits : goal.returns-in-Shl-clause-fits
returns-in-Shl-clause-fits c = grind (arith, common_steps)

pub returns-in-Shr-clause-value : goal.returns-in-Shr-clause-value
returns-in-Shr-clause-value c = grind (arith, common_steps)

pub returns-in-Shr-clause-fits : goal.returns-in-Shr-clause-fits
returns-in-Shr-clause-fits c = grind (arith, common_steps)

pub returns-after-wide-half-clause-value : goal.returns-after-wide-half-clause-value
returns-after-wide-half-clause-value c = grind (arith, common_steps)

pub returns-after-wide-half-clause-fits : goal.returns-after-wide-half-clause-fits
returns-after-wide-half-clause-fits c = grind (arith, common_steps)
