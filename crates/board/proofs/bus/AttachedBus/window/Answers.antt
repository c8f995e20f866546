use Rattle.std.proofs.Common.{◌-◌, arith}
use Rattle.board.specs.Inner.Settled.{settled_chips}
use Rattle.board.specs.Inner.Attached.{world_of}
use Rattle.board.proofs.Windows.{ram_window, rom_window}
use Rattle.board.proofs.bus.AttachedBus.window.Goals as goal

pub returns-then-place-len : goal.returns-then-place-len
returns-then-place-len c =
    rw c.deref-then-place-len.ensures.value (ram_window settled_chips (world_of c.args.self.now) c.args.address (omega (arith, c.if-place-len.true, c.len.ensures)))

pub returns-then-self-address : goal.returns-then-self-address
returns-then-self-address c =
    let a = c.args.self.now in
    rw c.deref.ensures.value
    (rom_window settled_chips (world_of a) c.args.address (c.args.address - a.rom_start) a.rom_start (omega (arith, c.if-self-address.true)) (omega (arith, a.rom_ends))
    (omega (arith, a.ram_is_whole, a.rom_is_high, c.if-self-address.true))
    (record { monochrome = omega (arith, a.monochrome_is_whole, a.monochrome.ok.0); colour = omega (arith, a.colour_is_whole, a.colour.ok.0) })
    (omega (arith, a.rom_is_high, c.if-self-address.true))
    (omega (arith, a.rom_ends, c.requires, c.if-self-address.true)))
