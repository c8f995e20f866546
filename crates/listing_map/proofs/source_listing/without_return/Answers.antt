use Rattle.listing_map.proofs.Listed.{after_other, after_return}
use Rattle.listing_map.proofs.source_listing.without_return.Goals as goal

pub returns-then-last-eq13 : goal.returns-then-last-eq13
returns-then-last-eq13 c = λ rest. after_return c.args.line.now c.in-Some.start.now rest c.in-Some.last.now c.in-Some.ensures.cases.0 c.if-last-eq13.true c.requires

pub returns-else-last-eq13 : goal.returns-else-last-eq13
returns-else-last-eq13 c = λ rest. after_other c.args.line.now c.in-Some.start.now rest c.in-Some.last.now c.in-Some.ensures.cases.0 c.if-last-eq13.false c.requires
