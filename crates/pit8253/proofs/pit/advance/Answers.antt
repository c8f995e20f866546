use Rattle.std.proofs.Common.{◌≡◌, ◌+◌, ◌-◌, ◌<◌, ◌||◌, arith, subst, MatchBool}
use Rattle.pit8253.specs.Timer.{pulses}
use Rattle.pit8253.specs.Alike.{AlikeCounters}
use Rattle.pit8253.specs.Channel.{shown, Rises}
use Rattle.pit8253.proofs.Compose.{start_moved_on, part_moved_on, then_moved, then_match}
use Rattle.pit8253.proofs.pit.advance.Goals as goal

pub whole-whole-requires : goal.whole-whole-requires
whole-whole-requires c =
    let less : c.within-first.result < c.args.k = omega arith in
    start_moved_on (shown c.segment-in_first.new.self) (pulses c.within-first.result (shown c.args.channel.now)) c.segment-in_first.ensures.moved (c.within-first.ensures.start less)

pub segment-in_last-requires-clause-part : goal.segment-in_last-requires-clause-part
segment-in_last-requires-clause-part c =
    part_moved_on (c.args.k - c.within-first.result - c.whole-whole.result) (shown c.segment-in_whole.new.self)
    (pulses c.whole-whole.result (shown c.segment-in_first.new.self)) c.segment-in_whole.ensures.moved c.whole-whole.ensures.rest

pub returns-clause-moved : goal.returns-clause-moved
returns-clause-moved c =
    let s = shown c.args.channel.now in
    let x = c.within-first.result in
    let y = c.whole-whole.result in
    let z = c.args.k - c.within-first.result - c.whole-whole.result in
    let e : x + y + z ≡ c.args.k = omega (arith, c.within-first.ensures.most, c.whole-whole.ensures.most) in
    subst (λ j. AlikeCounters (shown c.segment-in_last.new.self) (pulses j s)) e
    (then_moved (x + y) z s (shown c.segment-in_whole.new.self) (shown c.segment-in_last.new.self)
    (then_moved x y s (shown c.segment-in_first.new.self) (shown c.segment-in_whole.new.self) c.segment-in_first.ensures.moved c.segment-in_whole.ensures.moved)
    c.segment-in_last.ensures.moved)

pub returns-clause-rose : goal.returns-clause-rose
returns-clause-rose c =
    let s = shown c.args.channel.now in
    let x = c.within-first.result in
    let y = c.whole-whole.result in
    let z = c.args.k - c.within-first.result - c.whole-whole.result in
    let e : x + y + z ≡ c.args.k = omega (arith, c.within-first.ensures.most, c.whole-whole.ensures.most) in
    subst (λ j. MatchBool ((c.segment-in_first.result || c.segment-in_whole.result) || c.segment-in_last.result) (Rises j s) (¬ Rises j s)) e
    (then_match (c.segment-in_first.result || c.segment-in_whole.result) c.segment-in_last.result (x + y) z s (shown c.segment-in_whole.new.self)
    (then_moved x y s (shown c.segment-in_first.new.self) (shown c.segment-in_whole.new.self) c.segment-in_first.ensures.moved c.segment-in_whole.ensures.moved)
    (then_match c.segment-in_first.result c.segment-in_whole.result x y s (shown c.segment-in_first.new.self) c.segment-in_first.ensures.moved c.segment-in_first.ensures.rose c.segment-in_whole.ensures.rose)
    c.segment-in_last.ensures.rose)
