use Rattle.i86_table.proofs.InverseProofs.{inverse_holds}
use Rattle.i86_table.proofs.condition.inverse_law.Goals as goal

pub returns : goal.returns
returns c = inverse_holds
