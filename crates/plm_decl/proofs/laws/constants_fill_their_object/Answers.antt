use Rattle.plm_decl.proofs.Objects.{constants_fill}
use Rattle.plm_decl.proofs.laws.constants_fill_their_object.Goals as goal

pub returns : goal.returns
returns c = constants_fill
