-- What building and running answers, from what its calls answer.
use Rattle.std.proofs.Common.{◌≡◌, ℕ, true, refl, List}
use Rattle.std.specs.Prelude.{Option, Result, Ok, Err, IfOk, IfErr, MatchResult}
use Rattle.word86.specs.declared.event.Event.{Event}
use Rattle.word86.specs.declared.fault.Fault.{Fault}
use Rattle.word86.specs.declared.fault.Fault.TheVariants.{Memory, At}
use Rattle.word86.specs.declared.number.Number.TheVariants.{E704}
use Rattle.word86.specs.declared.power_on.PowerOn.{PowerOn}
use Rattle.cpu8086.specs.Cpu.{zeros}
use Rattle.ppi_kbd.specs.Chips.{reset}
use Rattle.board.specs.declared.board.Board.{Board}
use Rattle.board.specs.declared.run.End.{End}
use Rattle.word86.specs.PowerOn.{pages_of}
use Rattle.board.specs.Machine.{power_on as powered_on}
use Rattle.board.specs.Rom.{is_rom_length}
use Rattle.board.specs.Run.{Ran, Broke}
use Rattle.layout_link.specs.declared.image.Image.{Image}
use Rattle.layout_link.specs.declared.image.RomSize.{RomSize}
use Rattle.layout_link.specs.declared.image.RomSize.TheVariants as sizes
use Rattle.plm86.specs.Build.{IsBuilt}
use Rattle.plm86.specs.BuildAndRun.{HasRun, HasNotRun, wants_memory, not_written}
use Rattle.layout_link.specs.Image.{bytes_in}

-- each size is one that the board takes
pub is_taken : (size : RomSize) → is_rom_length (bytes_in size) ≡ true
is_taken sizes.Kib8 = refl
is_taken sizes.Kib16 = refl
is_taken sizes.Kib32 = refl
is_taken sizes.Kib64 = refl

module _ (texts : List (List ℕ)) (size : RomSize) (memory : PowerOn) (due : ℕ → List Event) (stop : ℕ) where
  pub no_board : (old : Option (List ℕ)) (before : ℕ) (f : Fault) → f ≡ Memory → HasNotRun texts size memory due stop old old before before f
  no_board old before f is = wants_memory is refl refl

  module _ (image : Image) (built : IsBuilt texts size image) (board : Board) (old new : Option (List ℕ)) (before after : ℕ) where
    abbrev RunIs : Result End Fault → Type 0
    RunIs r = MatchResult r (Ran due stop (powered_on zeros image.rom.items memory.ram.items (pages_of memory) reset) board old new before after) (λ f. Broke due stop (powered_on zeros image.rom.items memory.ram.items (pages_of memory) reset) board old new before after)

    pub has_run : (r : Result End Fault) → RunIs r → IfOk r (HasRun texts size memory due stop old new before after)
    has_run (Ok e) run = record { image = image; built = built; board = board; ran = run }
    has_run (Err f) run = tt

    pub has_not_run : (r : Result End Fault) → RunIs r → IfErr r (λ f. f ≡ At 0 1 E704) → IfErr r (HasNotRun texts size memory due stop old new before after)
    has_not_run (Ok e) run fault = tt
    has_not_run (Err f) run fault = not_written image built board run fault
