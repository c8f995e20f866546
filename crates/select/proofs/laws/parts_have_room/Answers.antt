use Rattle.select.proofs.Rooming.{have_room}
use Rattle.select.proofs.laws.parts_have_room.Goals as goal

pub returns : goal.returns
returns c = have_room
