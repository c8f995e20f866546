use Rattle.select.proofs.Saving.{unserved}
use Rattle.select.proofs.laws.unserved_changes_none.Goals as goal

pub returns : goal.returns
returns c = unserved
