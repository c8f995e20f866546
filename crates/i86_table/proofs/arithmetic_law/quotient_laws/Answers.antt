use Rattle.i86_table.proofs.ProductProofs.{quotient_tells}
use Rattle.i86_table.proofs.arithmetic_law.quotient_laws.Goals as goal

pub returns : goal.returns
returns c = quotient_tells
