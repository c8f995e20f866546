use Rattle.word86.proofs.power_on.PowerOn.filled.Goals as goal

pub returns-clause-ram : goal.returns-clause-ram
returns-clause-ram c = c.in_ok-ram.ensures.filled

pub returns-clause-colour : goal.returns-clause-colour
returns-clause-colour c = c.in_ok-colour.ensures.filled

pub returns-clause-monochrome : goal.returns-clause-monochrome
returns-clause-monochrome c = c.in_ok-monochrome.ensures.filled
