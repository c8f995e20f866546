-- What building texts and running the ROM leaves.
use Rattle.std.specs.Prelude.{◌≡◌, ℕ, List, Option}
use Rattle.word86.specs.declared.event.Event.{Event}
use Rattle.word86.specs.declared.fault.Fault.{Fault}
use Rattle.word86.specs.declared.fault.Fault.TheVariants.{Memory, At}
use Rattle.word86.specs.declared.number.Number.TheVariants.{E704}
use Rattle.word86.specs.declared.power_on.PowerOn.{PowerOn}
use Rattle.cpu8086.specs.Cpu.{zeros}
use Rattle.ppi_kbd.specs.Chips.{reset}
use Rattle.board.specs.declared.board.Board.{Board}
use Rattle.board.specs.declared.run.End.{End}
use Rattle.word86.specs.PowerOn.{pages_of}
use Rattle.board.specs.Machine.{power_on as powered_on}
use Rattle.board.specs.Run.{Ran, Broke}
use Rattle.layout_link.specs.declared.image.Image.{Image}
use Rattle.layout_link.specs.declared.image.RomSize.{RomSize}
use Rattle.plm86.specs.Build.{IsBuilt, Refuses}

-- The texts are built, and the board ran the ROM from its reset on, with 0 in the general registers: the sink took the run's whole text.
pub record HasRun (texts : List (List ℕ)) (size : RomSize) (memory : PowerOn) (due : ℕ → List Event) (stop : ℕ) (old new : Option (List ℕ)) (before after : ℕ) (e : End) : Type 0 where
  pub image : Image
  pub built : IsBuilt texts size image
  pub board : Board
  pub ran : Ran due stop (powered_on zeros image.rom.items memory.ram.items (pages_of memory) reset) board old new before after e

-- The texts are refused, or memory is wanting, and the sink is as it was; or the sink failed in the run of the ROM.
pub data HasNotRun (texts : List (List ℕ)) (size : RomSize) (memory : PowerOn) (due : ℕ → List Event) (stop : ℕ) (old new : Option (List ℕ)) (before after : ℕ) (f : Fault) : Type 0 where
  not_built : Refuses texts size f → new ≡ old → after ≡ before → HasNotRun texts size memory due stop old new before after f
  wants_memory : f ≡ Memory → new ≡ old → after ≡ before → HasNotRun texts size memory due stop old new before after f
  not_written : (image : Image) → IsBuilt texts size image → (board : Board) → Broke due stop (powered_on zeros image.rom.items memory.ram.items (pages_of memory) reset) board old new before after → f ≡ At 0 1 E704 → HasNotRun texts size memory due stop old new before after f
