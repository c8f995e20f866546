use Rattle.plm_syntax.proofs.Whole.{once}
use Rattle.plm_syntax.proofs.laws.spell_once.Goals as goal

pub returns : goal.returns
returns c = once
