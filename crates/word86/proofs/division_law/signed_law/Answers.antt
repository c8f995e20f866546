use Rattle.word86.proofs.Quotients.{signed_tells}
use Rattle.word86.proofs.division_law.signed_law.Goals as goal

pub returns : goal.returns
returns c = signed_tells
