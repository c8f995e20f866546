use Rattle.std.proofs.Common.{◌≡◌, ◌++◌, take, drop}
use Rattle.pit8253.specs.Timer.{Timer, timer_reset}
use Rattle.pit8253.specs.Pit.{Shows}
use Rattle.pit8253.specs.Calls.{after, replies_of}
use Rattle.pit8253.proofs.calls.replay.Given as goal

abbrev pub invariant-loop-i : goal.invariant-loop-i
invariant-loop-i l =
    (d : Timer) × Shows l.pit d × (after (drop l.i l.calls) d ≡ after l.calls timer_reset) × (take l.i l.replies ++ replies_of (drop l.i l.calls) d ≡ replies_of l.calls timer_reset)
