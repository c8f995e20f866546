use Rattle.lower.proofs.TypedProgram.{checked_well}
use Rattle.lower.proofs.laws.checked_trees_are_well_formed.Goals as goal

pub returns : goal.returns
returns c = checked_well
