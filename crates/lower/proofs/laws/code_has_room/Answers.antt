use Rattle.lower.proofs.Rooming.{programs_fit}
use Rattle.lower.proofs.laws.code_has_room.Goals as goal

pub returns : goal.returns
returns c = programs_fit
