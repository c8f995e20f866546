use Rattle.pit8253.proofs.Lift.{still_moved, still_rises}
use Rattle.pit8253.proofs.element.Element.segment.Goals as goal

pub returns-in-Still-clause-moved : goal.returns-in-Still-clause-moved
returns-in-Still-clause-moved c = rw c.in-Still.is (still_moved c.args.k c.in-Still.field-0)

pub returns-in-Still-clause-rose : goal.returns-in-Still-clause-rose
returns-in-Still-clause-rose c = rw c.in-Still.is (still_rises c.args.k c.in-Still.field-0)
