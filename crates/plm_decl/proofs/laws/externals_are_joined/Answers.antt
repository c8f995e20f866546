use Rattle.plm_decl.proofs.JoinedNames.{externals_are_joined}
use Rattle.plm_decl.proofs.laws.externals_are_joined.Goals as goal

pub returns : goal.returns
returns c = externals_are_joined
