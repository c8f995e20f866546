use Rattle.i86_table.proofs.ProductProofs.{product_tells}
use Rattle.i86_table.proofs.arithmetic_law.product_laws.Goals as goal

pub returns : goal.returns
returns c = product_tells
