-- What the memory and the chips of the code stand for.
use Rattle.std.specs.Prelude.{ℕ, ◌-◌, List, length}
use Rattle.word86.specs.declared.page.Page.TheVariants.{Monochrome, Colour}
use Rattle.word86.specs.Page.{Pages, page_at}
use Rattle.ppi_kbd.specs.Chips.{ChipState}
use Rattle.board.specs.declared.attached.Attached.{Attached}
use Rattle.board.specs.World.{World, region}
use Rattle.board.specs.Inner.Settled.{chips_of}

-- memory, and the settled state of the chips
abbrev pub world_of : Attached → World ChipState
world_of a = record { ram = a.ram.items; screen = record { monochrome = a.monochrome.items; colour = a.colour.items }; rom = a.rom.items; chips = chips_of a.ports }

-- what an address has that is not in RAM
abbrev pub beside_ram : (screen : Pages) (rom : List ℕ) (a : ℕ) → ℕ
beside_ram screen rom a = region (page_at Monochrome) screen.monochrome a (region (page_at Colour) screen.colour a (region (0x100000 - length rom) rom a 255))
