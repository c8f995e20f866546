-- What a stretch of a numbered run leaves.
use Rattle.std.specs.Prelude.{ℕ, ◌≡◌, List, Option, Some, None, Result, Ok, Err}
use Rattle.word86.specs.declared.event.Event.{Event}
use Rattle.word86.specs.declared.fault.Fault.{Fault}
use Rattle.word86.specs.Sink.{Appends}
use Rattle.ppi_kbd.specs.Chips.{ChipState}
use Rattle.board.specs.declared.board.Board as code
use Rattle.board.specs.declared.run.End.{End}
use Rattle.board.specs.declared.run.Step.{Step}
use Rattle.board.specs.World.{World}
use Rattle.board.specs.Machine.{Board}
use Rattle.board.specs.Board.{Shows}
use Rattle.board.specs.Run.{GoesOn, board_after}
use Rattle.board.specs.Numbered.{numbered_text, RanNumbered, BrokeNumbered}
use Rattle.board.specs.Inner.Steps.{answer_of}

-- n turns went on, their lines were taken, and the board stands after them
pub record CountedOn (due : ℕ → List Event) (b : Board (World ChipState)) (n : ℕ) (Here : Board (World ChipState) → Type 0) (old new : Option (List ℕ)) (before after : ℕ) : Type 0 where
  pub goes_on : GoesOn due n b
  pub board : Here (board_after due n b)
  pub taken : Appends old new (numbered_text due n b)
  pub same : after ≡ before

-- and it is this one
abbrev pub Counted : (ℕ → List Event) → Board (World ChipState) → (n : ℕ) → code.Board → (old new : Option (List ℕ)) → (before after : ℕ) → Type 0
Counted due b n q old new before after = CountedOn due b n (Shows q) old new before after

abbrev pub CountedTo : (ℕ → List Event) → (stop : ℕ) → Board (World ChipState) → (n : ℕ) → code.Board → (old new : Option (List ℕ)) → (before after : ℕ) → Result (Option End) Fault → Type 0
CountedTo due stop b n q old new before after (Ok None) = Counted due b n q old new before after
CountedTo due stop b n q old new before after (Ok (Some e)) = RanNumbered due stop b q old new before after e
CountedTo due stop b n q old new before after (Err f) = BrokeNumbered due stop b q old new before after

-- n turns went on, or the run ended in one of them, or the sink failed
abbrev pub CountedBy : (ℕ → List Event) → (stop : ℕ) → Board (World ChipState) → (n : ℕ) → code.Board → (old new : Option (List ℕ)) → (before after : ℕ) → Step → Type 0
CountedBy due stop b n q old new before after s = CountedTo due stop b n q old new before after (answer_of s)
