-- A run whose lines have their turns in front.
use Rattle.std.specs.Prelude.{ℕ, zero, suc, ◌-◌, ◌≡◌, ◌++◌, List, [], Option}
use Rattle.std.specs.List.{flat_map}
use Rattle.word86.specs.declared.event.Event.{Event}
use Rattle.word86.specs.declared.label.Label.{Label}
use Rattle.word86.specs.Sink.{Appends, Cut, Rises}
use Rattle.cpu8086.specs.declared.cpu.Kind.{Kind}
use Rattle.cpu8086.specs.declared.cpu.Kind.TheVariants as kinds
use Rattle.listing_map.specs.Lines.{turn_number, label_line, opcode_line, end_line}
use Rattle.ppi_kbd.specs.Chips.{ChipState}
use Rattle.board.specs.declared.board.Board as code
use Rattle.board.specs.declared.run.End.{End}
use Rattle.board.specs.declared.run.End.TheVariants.{Stopped, Opcode}
use Rattle.board.specs.World.{World}
use Rattle.board.specs.Machine.{Board}
use Rattle.board.specs.Board.{Shows}
use Rattle.board.specs.Run.{Ends, board_after, board_kind, board_turn}

abbrev pub numbered : ℕ → List ℕ → List ℕ
numbered turn line = turn_number turn ++ line

-- a line for each label of a turn
abbrev pub numbered_lines : ℕ → List Label → List ℕ
numbered_lines turn ls = flat_map (λ l. numbered turn (label_line l)) ls

abbrev pub numbered_closing : ℕ → Kind → List ℕ
numbered_closing turn (kinds.Opcode address) = numbered turn (opcode_line address)
numbered_closing turn kinds.Ack = []
numbered_closing turn kinds.Instr = []
numbered_closing turn kinds.Wait = []

abbrev pub numbered_turn_text : ℕ → List Event → Board (World ChipState) → List ℕ
numbered_turn_text turn es b = numbered_lines turn (board_turn es b).1 ++ numbered_closing turn (board_kind es b)

module _ (due : ℕ → List Event) where
  -- the lines of the first turns
  abbrev pub numbered_text : ℕ → Board (World ChipState) → List ℕ
  numbered_text zero b = []
  numbered_text (suc k) b = numbered_text k b ++ numbered_lines k (board_turn (due k) (board_after due k b)).1

  -- the whole text of a run that ends so after this number of turns: the last line has the stop's turn, or that which met no instruction
  abbrev pub numbered_run : (stop : ℕ) → Board (World ChipState) → End → (turns : ℕ) → List ℕ
  numbered_run stop b Stopped n = numbered_text n b ++ numbered stop (end_line stop)
  numbered_run stop b (Opcode address) n = numbered_text n b ++ numbered (n - 1) (opcode_line address)

-- the sink took the run's whole text without a failure, and the board stands after the last turn
pub record RanNumbered (due : ℕ → List Event) (stop : ℕ) (b : Board (World ChipState)) (q : code.Board) (old new : Option (List ℕ)) (before after : ℕ) (e : End) : Type 0 where
  pub turns : ℕ
  pub ends : Ends due stop b e turns
  pub board : Shows q (board_after due turns b)
  pub taken : Appends old new (numbered_run due stop b e turns)
  pub same : after ≡ before

-- the sink failed: what it took is a beginning of the run's text
pub record BrokeNumbered (due : ℕ → List Event) (stop : ℕ) (b : Board (World ChipState)) (q : code.Board) (old new : Option (List ℕ)) (before after : ℕ) : Type 0 where
  pub turns : ℕ
  pub board : Shows q (board_after due turns b)
  pub begins : (e : End) (n : ℕ) → Ends due stop b e n → Cut old new (numbered_run due stop b e n)
  pub risen : Rises before after
