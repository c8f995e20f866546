use Rattle.std.specs.Prelude.{ℕ, ◌-◌, ◌≤◌}
use Rattle.ppi_kbd.specs.Chips.{ChipState}
use Rattle.board.specs.World.{World}
use Rattle.board.specs.Machine.{Board}
use Rattle.board.specs.Board.{Shows}
use Rattle.board.specs.Run.{due_of}
use Rattle.board.specs.Parts.{Far}
use Rattle.plm86.proofs.progress.run_in_parts.Given as goal

abbrev pub invariant-loop-turn : goal.invariant-loop-turn
invariant-loop-turn g l = record {
  within : l.turn ≤ l.schedule.stop;
  far : (b : Board (World ChipState)) → Shows l.initial.board b
      → Far (due_of l.schedule) b l.turn l.board (g.S.Sink.taken l.initial.sink) (g.S.Sink.taken l.sink) (g.S.Sink.failures l.initial.sink) (g.S.Sink.failures l.sink);
}

abbrev pub decreases-loop-turn : goal.decreases-loop-turn
decreases-loop-turn g l = l.schedule.stop - l.turn
