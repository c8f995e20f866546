use Rattle.std.specs.Prelude.{◌≡◌, ◌-◌, ◌≤◌, []}
use Rattle.ppi_kbd.specs.Chips.{ChipState}
use Rattle.board.specs.World.{World}
use Rattle.board.specs.Machine.{Board}
use Rattle.board.specs.Board.{Shows}
use Rattle.board.specs.Run.{due_of}
use Rattle.board.specs.Watched.{Lived}
use Rattle.board.specs.Inner.Counted.{Counted}
use Rattle.board.proofs.board.Board.number_turns.Given as goal

abbrev pub invariant-loop-turn : goal.invariant-loop-turn
invariant-loop-turn g l = record {
  within : l.turn ≤ l.schedule.stop;
  empty : l.labels.items ≡ [];
  far : (b : Board (World ChipState)) → Shows l.initial.self b
      → Counted (due_of l.schedule) b l.turn l.self (g.S.Sink.taken l.initial.sink) (g.S.Sink.taken l.sink) (g.S.Sink.failures l.initial.sink) (g.S.Sink.failures l.sink);
  lived : (b : Board (World ChipState)) → Lived (due_of l.schedule) b 0 l.initial.self → Lived (due_of l.schedule) b l.turn l.self;
}

abbrev pub decreases-loop-turn : goal.decreases-loop-turn
decreases-loop-turn g l = l.schedule.stop - l.turn
