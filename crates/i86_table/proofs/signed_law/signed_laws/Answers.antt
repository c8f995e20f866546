use Rattle.i86_table.proofs.SignedProofs.{signed_tells}
use Rattle.i86_table.proofs.signed_law.signed_laws.Goals as goal

pub returns : goal.returns
returns c = signed_tells c.signed_law.ensures
