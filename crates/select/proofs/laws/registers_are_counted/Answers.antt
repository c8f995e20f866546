use Rattle.select.proofs.Saving.{counted}
use Rattle.select.proofs.laws.registers_are_counted.Goals as goal

pub returns : goal.returns
returns c = counted
