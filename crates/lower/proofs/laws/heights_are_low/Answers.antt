use Rattle.lower.proofs.Lows.{code_low}
use Rattle.lower.proofs.laws.heights_are_low.Goals as goal

pub returns : goal.returns
returns c = code_low
