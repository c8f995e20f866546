use Rattle.word86.specs.declared.width.Width.TheVariants.{Word}
use Rattle.ppi_kbd.specs.Chips.{writing}
use Rattle.board.proofs.SettledChips.{settles}
use Rattle.board.proofs.chips.write_port.Goals as goal

pub returns-in-Byte : goal.returns-in-Byte
returns-in-Byte c = rw c.in-Byte.is c.write_byte.ensures

pub returns-in-Word : goal.returns-in-Word
returns-in-Word c = rw c.in-Word.is (settles _ _ (λ s. writing s Word c.args.port c.args.value) c.write_word.ensures)
