use Rattle.std.proofs.Common.{sym, ◌∙◌}
use Rattle.pit8253.specs.Channel.{shown}
use Rattle.pit8253.specs.Element.{element_view}
use Rattle.pit8253.proofs.Lift.{moved_stuck, rose_stuck, moved_lift, rose_lift}
use Rattle.pit8253.proofs.channel.Channel.segment.Goals as goal

pub returns-then-not-is_counting-clause-moved : goal.returns-then-not-is_counting-clause-moved
returns-then-not-is_counting-clause-moved c = moved_stuck c.args.k (shown c.args.self.now) (sym c.is_counting.ensures ∙ c.if-not-is_counting.true)

pub returns-then-not-is_counting-clause-rose : goal.returns-then-not-is_counting-clause-rose
returns-then-not-is_counting-clause-rose c = rose_stuck c.args.k (shown c.args.self.now) (sym c.is_counting.ensures ∙ c.if-not-is_counting.true)

pub returns-clause-moved : goal.returns-clause-moved
returns-clause-moved c = moved_lift c.args.k (shown c.args.self.now) (element_view c.segment.new.self) (sym c.is_counting.ensures ∙ c.if-not-is_counting.false) c.segment.ensures.moved

pub returns-clause-rose : goal.returns-clause-rose
returns-clause-rose c = rose_lift c.segment.result c.args.k (shown c.args.self.now) (sym c.is_counting.ensures ∙ c.if-not-is_counting.false) c.segment.ensures.rose

pub segment-requires : goal.segment-requires
segment-requires c = c.requires.part (sym c.is_counting.ensures ∙ c.if-not-is_counting.false)
