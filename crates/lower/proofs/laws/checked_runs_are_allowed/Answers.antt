use Rattle.lower.proofs.Allowed.{runs_allowed}
use Rattle.lower.proofs.laws.checked_runs_are_allowed.Goals as goal

pub returns : goal.returns
returns c = runs_allowed
