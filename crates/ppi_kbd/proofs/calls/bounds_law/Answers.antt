use Rattle.ppi_kbd.specs.BoardChips.{board_chips}
use Rattle.ppi_kbd.proofs.calls.bounds_law.Goals as goal

pub returns-clause-value : goal.returns-clause-value
returns-clause-value c = board_chips.value_fits

pub returns-clause-vector : goal.returns-clause-vector
returns-clause-vector c = board_chips.vector_fits
