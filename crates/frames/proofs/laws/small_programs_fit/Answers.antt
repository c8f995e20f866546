use Rattle.frames.proofs.Limiting.{small_fit}
use Rattle.frames.proofs.laws.small_programs_fit.Goals as goal

pub returns : goal.returns
returns c = small_fit
