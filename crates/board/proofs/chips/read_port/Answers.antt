use Rattle.std.proofs.Common.{◌∙◌}
use Rattle.word86.specs.declared.width.Width.TheVariants.{Byte, Word}
use Rattle.ppi_kbd.specs.Chips.{reading, value}
use Rattle.board.proofs.SettledChips.{settles, answers}
use Rattle.board.proofs.chips.read_port.Goals as goal

pub returns-in-Byte-clause-value : goal.returns-in-Byte-clause-value
returns-in-Byte-clause-value c = rw c.in-Byte.is (c.from.ensures ∙ answers _ _ (λ s. value s Byte c.args.port) c.read.ensures.value)

pub returns-in-Byte-clause-after : goal.returns-in-Byte-clause-after
returns-in-Byte-clause-after c = rw c.in-Byte.is (settles _ _ (λ s. reading s Byte c.args.port) c.read.ensures.state)

pub returns-in-Word-clause-value : goal.returns-in-Word-clause-value
returns-in-Word-clause-value c = rw c.in-Word.is (answers _ _ (λ s. value s Word c.args.port) c.read_word.ensures.value)

pub returns-in-Word-clause-after : goal.returns-in-Word-clause-after
returns-in-Word-clause-after c = rw c.in-Word.is (settles _ _ (λ s. reading s Word c.args.port) c.read_word.ensures.state)
