use Rattle.std.proofs.Common.{◌%◌, ap, sym, arith, add-zero}
use Rattle.pit8253.specs.Timer.{pulses}
use Rattle.pit8253.specs.Channel.{shown}
use Rattle.pit8253.proofs.Lift.{alike_counters_refl}
use Rattle.pit8253.proofs.Compose.{then_moved, then_match}
use Rattle.pit8253.proofs.pit.advance_singly.Goals as goal

pub loop-i-init : goal.loop-i-init
unfolding pulses
loop-i-init c = record {
  counted = omega arith;
  tied = ap (λ x. x % 4294967296) (sym (add-zero c.args.channel.now.segments));
  moved = alike_counters_refl (shown c.args.channel.now);
  rose = λ (i, below, low, high). omega arith;
}

pub loop-i-preserved : goal.loop-i-preserved
loop-i-preserved c =
    let before = shown c.args.channel.now in
    record {
      counted = omega arith;
      tied = omega arith;
      moved = then_moved c.loop-i._i 1 before (shown c.loop-i.channel) (shown c.segment-rose.new.self) c.loop-i.invariant.moved c.segment-rose.ensures.moved;
      rose = then_match c.loop-i.rose c.segment-rose.result c.loop-i._i 1 before (shown c.loop-i.channel) c.loop-i.invariant.moved c.loop-i.invariant.rose c.segment-rose.ensures.rose;
    }
