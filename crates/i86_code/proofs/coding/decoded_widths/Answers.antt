use Rattle.i86_code.proofs.WidthProofs.{decoded_has_widths}
use Rattle.i86_code.proofs.coding.decoded_widths.Goals as goal

pub returns : goal.returns
returns c = decoded_has_widths
