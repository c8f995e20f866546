use Rattle.lower.proofs.Handlers.{enters_the_same}
use Rattle.lower.proofs.laws.interrupts_enter_their_procedures.Goals as goal

pub returns : goal.returns
returns c = enters_the_same
