use Rattle.std.proofs.Common.{◌≡◌, ◌+◌, ◌%◌, MatchBool}
use Rattle.pit8253.specs.Timer.{pulses}
use Rattle.pit8253.specs.Alike.{AlikeCounters}
use Rattle.pit8253.specs.Channel.{shown, Rises}
use Rattle.pit8253.proofs.pit.advance_singly.Given as goal

abbrev pub invariant-loop-i : goal.invariant-loop-i
invariant-loop-i l = record {
  counted : l.segments.made ≡ l.initial.segments.made + l._i;
  tied : l.channel.segments % 4294967296 ≡ (l.initial.channel.segments + l._i) % 4294967296;
  moved : AlikeCounters (shown l.channel) (pulses l._i (shown l.initial.channel));
  rose : MatchBool l.rose (Rises l._i (shown l.initial.channel)) (¬ Rises l._i (shown l.initial.channel));
}
