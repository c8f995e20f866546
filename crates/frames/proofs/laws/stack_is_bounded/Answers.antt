use Rattle.frames.proofs.Limiting.{bounded}
use Rattle.frames.proofs.laws.stack_is_bounded.Goals as goal

pub returns : goal.returns
returns c = bounded
