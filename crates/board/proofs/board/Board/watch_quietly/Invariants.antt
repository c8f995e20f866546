use Rattle.std.specs.Prelude.{ℕ, ◌≡◌, ◌-◌, ◌<◌, ◌≤◌, List, []}
use Rattle.word86.specs.declared.event.Event.{Event}
use Rattle.ppi_kbd.specs.Chips.{ChipState}
use Rattle.board.specs.World.{World}
use Rattle.board.specs.Machine.{Board}
use Rattle.board.specs.Watched.{Stands}
use Rattle.board.proofs.board.Board.watch_quietly.Given as goal

abbrev pub invariant-loop-turn : goal.invariant-loop-turn
invariant-loop-turn g l = record {
  after : l.from ≤ l.turn;
  within : l.turn ≤ l.to;
  empty : l.labels.items ≡ [];
  stands : (due : ℕ → List Event) → ((t : ℕ) → l.from ≤ t → t < l.to → due t ≡ []) → (b : Board (World ChipState)) → Stands due b l.from l.initial.self → Stands due b l.turn l.self;
}

abbrev pub decreases-loop-turn : goal.decreases-loop-turn
decreases-loop-turn g l = l.to - l.turn
