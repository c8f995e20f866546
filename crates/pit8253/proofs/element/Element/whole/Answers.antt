use Rattle.std.proofs.Common.{◌-◌}
use Rattle.pit8253.proofs.Lift.{still_part, once_part}
use Rattle.pit8253.proofs.element.Element.whole.Goals as goal

pub returns-in-Still-clause-rest : goal.returns-in-Still-clause-rest
returns-in-Still-clause-rest c = rw c.in-Still.is (still_part (c.args.k - c.args.k) c.args.k c.in-Still.field-0)

pub returns-in-Once-clause-rest : goal.returns-in-Once-clause-rest
returns-in-Once-clause-rest c = rw c.in-Once.is (once_part (c.args.k - c.args.k) c.args.k c.in-Once.field-0.count c.in-Once.field-0.pulses)
