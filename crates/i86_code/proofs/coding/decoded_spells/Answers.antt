use Rattle.i86_code.proofs.DecodedProofs.{is_decoded_spells}
use Rattle.i86_code.proofs.coding.decoded_spells.Goals as goal

pub returns : goal.returns
returns c = is_decoded_spells
