use Rattle.plm_syntax.proofs.Limits.{takes_modules}
use Rattle.plm_syntax.proofs.laws.takes_modules.Goals as goal

pub returns : goal.returns
returns c = takes_modules
