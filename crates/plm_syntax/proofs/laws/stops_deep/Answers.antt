use Rattle.plm_syntax.proofs.Limits.{first_deep}
use Rattle.plm_syntax.proofs.laws.stops_deep.Goals as goal

pub returns : goal.returns
returns c = first_deep
