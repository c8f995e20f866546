-- Runs that are watched: why one is refused, a board that does nothing any more, and the turns of a waveform.
use Rattle.std.specs.Prelude.{◌≡◌, ◌<◌, ◌⊎◌, ℕ, Bool, true, false, not, ◌&&◌, List, ◌++◌, Option, Some, None, Result, Ok, Err, codes, decimal}
use Rattle.word86.specs.declared.event.Event.{Event}
use Rattle.word86.specs.declared.fault.Fault.{Fault}
use Rattle.word86.specs.declared.fault.Fault.TheVariants.{Memory, At}
use Rattle.word86.specs.declared.number.Number.TheVariants.{E704}
use Rattle.i86_table.specs.Arithmetic.{has}
use Rattle.listing_map.specs.Lines.{line_end}
use Rattle.ppi_kbd.specs.Chips.{ChipState}
use Rattle.board.specs.declared.board.Board as code
use Rattle.board.specs.declared.run.End.{End}
use Rattle.board.specs.World.{World}
use Rattle.board.specs.Machine.{Board}
use Rattle.board.specs.Board.{Shows}
use Rattle.board.specs.Run.{Ends, GoesOn, board_after}
use Rattle.cpu8086.specs.declared.cpu.Cpu.{Cpu}
use Rattle.cpu8086.specs.declared.cpu.Phase.{Phase}
use Rattle.cpu8086.specs.declared.cpu.Phase.TheVariants.{Running, AfterSti, Halted, Stopped}

-- memory was refused, or the sink failed
abbrev pub IsRunFault : Fault → Type 0
IsRunFault f = (f ≡ Memory) ⊎ (f ≡ At 0 1 E704)

abbrev pub waits : Phase → Bool
waits Running = false
waits AfterSti = false
waits Halted = true
waits (Stopped at) = false

-- the processor waits for an interrupt, and lets none in
abbrev pub is_dead : Cpu → Bool
is_dead cpu = waits cpu.phase && not (has cpu.registers.flags 512)

module _ (due : ℕ → List Event) (b : Board (World ChipState)) where
  -- the first of n turns at whose beginning the processor is dead, or that there is none
  abbrev pub FirstDead : (n : ℕ) → Option ℕ → Type 0
  FirstDead n None = (k : ℕ) → k < n → is_dead (board_after due k b).cpu ≡ false
  FirstDead n (Some t) = (t < n) × (is_dead (board_after due t b).cpu ≡ true) × ((k : ℕ) → k < t → is_dead (board_after due k b).cpu ≡ false)

  -- the board stands after n turns, and has noted the first of them that was dead
  pub record Stands (n : ℕ) (q : code.Board) : Type 0 where
    pub board : Shows q (board_after due n b)
    pub noted : FirstDead n q.died

  -- and none of them met bytes that are no instruction
  abbrev pub Lived : (n : ℕ) → code.Board → Type 0
  Lived n q = GoesOn due n b × Stands n q

  -- the run ended so, and the board stands after its last turn
  abbrev pub Ended : (stop : ℕ) → code.Board → End → Type 0
  Ended stop q e = (turns : ℕ) × Ends due stop b e turns × Stands turns q

  -- n turns went on, or the run ended in one of them
  abbrev pub LivedPart : (stop n : ℕ) → code.Board → Result (Option End) Fault → Type 0
  LivedPart stop n q (Ok None) = Lived n q
  LivedPart stop n q (Ok (Some e)) = Ended stop q e
  LivedPart stop n q (Err fault) = Unit {0}

-- the line of a waveform from which on changes are those of a turn
abbrev pub time_line : ℕ → List ℕ
time_line turn = codes "#" ++ decimal turn ++ line_end
