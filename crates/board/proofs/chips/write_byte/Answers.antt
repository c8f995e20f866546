use Rattle.word86.specs.declared.width.Width.TheVariants.{Byte}
use Rattle.ppi_kbd.specs.Chips.{writing}
use Rattle.board.proofs.SettledChips.{settles}
use Rattle.board.proofs.chips.write_byte.Goals as goal

pub returns : goal.returns
returns c = settles _ _ (λ s. writing s Byte c.args.port c.args.value) c.write.ensures
