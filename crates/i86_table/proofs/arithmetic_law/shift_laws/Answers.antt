use Rattle.i86_table.proofs.ShiftProofs.{shift_tells}
use Rattle.i86_table.proofs.arithmetic_law.shift_laws.Goals as goal

pub returns : goal.returns
returns c = shift_tells
