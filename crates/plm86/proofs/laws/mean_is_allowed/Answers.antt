use Rattle.plm86.proofs.Allowed.{mean_is_allowed}
use Rattle.plm86.proofs.laws.mean_is_allowed.Goals as goal

pub returns : goal.returns
returns c = mean_is_allowed
