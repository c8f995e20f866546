use Rattle.std.specs.Prelude.{◌≡◌, ◌-◌, ◌≤◌, []}
use Rattle.ppi_kbd.specs.Chips.{ChipState}
use Rattle.board.specs.World.{World}
use Rattle.board.specs.Machine.{Board}
use Rattle.board.specs.Run.{due_of}
use Rattle.board.specs.Watched.{Stands}
use Rattle.board.proofs.board.Board.watch_turns.Given as goal

abbrev pub invariant-loop-turn : goal.invariant-loop-turn
invariant-loop-turn g l = record {
  within : l.turn ≤ l.schedule.stop;
  empty : l.labels.items ≡ [];
  stands : (b : Board (World ChipState)) → Stands (due_of l.schedule) b 0 l.initial.self → Stands (due_of l.schedule) b l.turn l.self;
}

abbrev pub decreases-loop-turn : goal.decreases-loop-turn
decreases-loop-turn g l = l.schedule.stop - l.turn
