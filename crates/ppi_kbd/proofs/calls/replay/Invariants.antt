use Rattle.std.proofs.Common.{◌≡◌, ◌++◌, take, drop}
use Rattle.ppi_kbd.specs.Chips.{ChipState, reset}
use Rattle.ppi_kbd.specs.Ports.{Shows}
use Rattle.ppi_kbd.specs.Calls.{after, replies_of}
use Rattle.ppi_kbd.proofs.calls.replay.Given as goal

abbrev pub invariant-loop-i : goal.invariant-loop-i
invariant-loop-i l =
    (d : ChipState) × Shows l.ports d × (after (drop l.i l.calls) d ≡ after l.calls reset) × (take l.i l.replies ++ replies_of (drop l.i l.calls) d ≡ replies_of l.calls reset)
