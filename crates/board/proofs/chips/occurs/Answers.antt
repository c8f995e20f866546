use Rattle.ppi_kbd.specs.Chips.{occurs}
use Rattle.board.proofs.SettledChips.{settles}
use Rattle.board.proofs.chips.occurs.Goals as goal

pub returns : goal.returns
returns c = settles _ _ (occurs c.args.event) c.event.ensures
