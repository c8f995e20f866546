use Rattle.plm_syntax.proofs.Limits.{first_wrong}
use Rattle.plm_syntax.proofs.laws.refuses_first.Goals as goal

pub returns : goal.returns
returns c = first_wrong
