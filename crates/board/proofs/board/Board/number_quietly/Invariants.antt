use Rattle.std.specs.Prelude.{ℕ, ◌≡◌, ◌-◌, ◌<◌, ◌≤◌, List, [], Option}
use Rattle.word86.specs.declared.event.Event.{Event}
use Rattle.ppi_kbd.specs.Chips.{ChipState}
use Rattle.board.specs.World.{World}
use Rattle.board.specs.Machine.{Board}
use Rattle.board.specs.Watched.{Lived}
use Rattle.board.specs.Inner.Counted.{Counted}
use Rattle.board.proofs.board.Board.number_quietly.Given as goal

abbrev pub invariant-loop-turn : goal.invariant-loop-turn
invariant-loop-turn g l = record {
  after : l.from ≤ l.turn;
  within : l.turn ≤ l.to;
  empty : l.labels.items ≡ [];
  far : (due : ℕ → List Event) → ((t : ℕ) → l.from ≤ t → t < l.to → due t ≡ []) → (b : Board (World ChipState)) (first : Option (List ℕ)) (failed : ℕ)
      → Counted due b l.from l.initial.self first (g.S.Sink.taken l.initial.sink) failed (g.S.Sink.failures l.initial.sink)
      → Counted due b l.turn l.self first (g.S.Sink.taken l.sink) failed (g.S.Sink.failures l.sink);
  lived : (due : ℕ → List Event) → ((t : ℕ) → l.from ≤ t → t < l.to → due t ≡ []) → (b : Board (World ChipState)) → Lived due b l.from l.initial.self → Lived due b l.turn l.self;
}

abbrev pub decreases-loop-turn : goal.decreases-loop-turn
decreases-loop-turn g l = l.to - l.turn
