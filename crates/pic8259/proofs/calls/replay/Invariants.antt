use Rattle.std.proofs.Common.{◌≡◌, ◌++◌, take, drop}
use Rattle.pic8259.specs.Controller.{reset}
use Rattle.pic8259.specs.Pic.{controller_of}
use Rattle.pic8259.specs.Calls.{after, replies_of}
use Rattle.pic8259.proofs.calls.replay.Given as goal

abbrev pub invariant-loop-i : goal.invariant-loop-i
invariant-loop-i l =
    (after (drop l.i l.calls) (controller_of l.pic) ≡ after l.calls reset) × (take l.i l.replies ++ replies_of (drop l.i l.calls) (controller_of l.pic) ≡ replies_of l.calls reset)
