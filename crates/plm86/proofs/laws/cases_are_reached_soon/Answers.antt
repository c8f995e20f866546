use Rattle.plm86.proofs.CaseTurns.{cases_reached}
use Rattle.plm86.proofs.laws.cases_are_reached_soon.Goals as goal

pub returns : goal.returns
returns c = cases_reached c.cases_come_soon.ensures
