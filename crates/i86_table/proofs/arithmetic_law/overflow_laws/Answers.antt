use Rattle.i86_table.proofs.OverflowProofs.{overflow_tells}
use Rattle.i86_table.proofs.arithmetic_law.overflow_laws.Goals as goal

pub returns : goal.returns
returns c = overflow_tells
