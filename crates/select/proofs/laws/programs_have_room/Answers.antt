use Rattle.select.proofs.Totalling.{programs_fit}
use Rattle.select.proofs.laws.programs_have_room.Goals as goal

pub returns : goal.returns
returns c = programs_fit
