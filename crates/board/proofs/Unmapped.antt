-- Writes to ports of no chip.
use Rattle.std.proofs.Common.{◌≡◌, ◌∙◌, ℕ, ◌<◌, sym, ap, arith}
use Rattle.word86.specs.declared.width.Width.TheVariants.{Byte}
use Rattle.ppi_kbd.specs.declared.device.Device.{Device}
use Rattle.ppi_kbd.specs.declared.device.Device.TheVariants.{Unmapped}
use Rattle.ppi_kbd.specs.declared.ports.Ports.{Ports}
use Rattle.ppi_kbd.specs.Device.{device_of}
use Rattle.ppi_kbd.specs.Chips.{writing, device_written}
use Rattle.board.specs.Inner.Settled.{chips_of, settled}
use Rattle.board.proofs.SettledChips.{settled_twice}

unmapped : (port : ℕ) → 99 < port → device_of port ≡ Unmapped
unmapped port above = grind (arith, above)

pub unmapped_stays : (p : Ports) (port v : ℕ) → 99 < port → chips_of p ≡ settled (writing (chips_of p) Byte port v)
unmapped_stays p port v above = settled_twice _ ∙ ap (λ (d : Device). settled (device_written d v (chips_of p))) (sym (unmapped port above))
