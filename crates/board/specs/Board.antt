-- What the board of the code stands for.
use Rattle.std.specs.Prelude.{◌≡◌}
use Rattle.ppi_kbd.specs.Ports as ports
use Rattle.ppi_kbd.specs.Chips.{ChipState}
use Rattle.board.specs.declared.board.Board as code
use Rattle.board.specs.World.{World}
use Rattle.board.specs.Machine.{Board}

-- the board stands for this one: its chips show the chips' state
pub record Shows (p : code.Board) (b : Board (World ChipState)) : Type 0 where
  pub cpu : p.cpu ≡ b.cpu
  pub ram : p.attached.ram.items ≡ b.world.ram
  pub monochrome : p.attached.monochrome.items ≡ b.world.screen.monochrome
  pub colour : p.attached.colour.items ≡ b.world.screen.colour
  pub rom : p.attached.rom.items ≡ b.world.rom
  pub chips : ports.Shows p.attached.ports b.world.chips
