use Rattle.plm_syntax.proofs.PutOut.{are_in_force}
use Rattle.plm_syntax.proofs.laws.literals_in_force.Goals as goal

pub returns : goal.returns
returns c = are_in_force
