use Rattle.std.proofs.Common.{◌≡◌, drop}
use Rattle.board.specs.World.{board_model, occurs}
use Rattle.board.specs.Machine.{all_occur}
use Rattle.board.specs.Inner.Settled.{settled_chips}
use Rattle.board.specs.Inner.Attached.{world_of}
use Rattle.board.proofs.turns.all_occur.Given as goal

abbrev pub invariant-loop-event : goal.invariant-loop-event
invariant-loop-event l =
    all_occur (board_model settled_chips) (occurs settled_chips) (drop l.event-index l.events) (world_of l.attached)
    ≡ all_occur (board_model settled_chips) (occurs settled_chips) l.events (world_of l.initial.attached)
