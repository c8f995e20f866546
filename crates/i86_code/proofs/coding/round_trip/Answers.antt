use Rattle.i86_code.proofs.WrittenForms.{written_again}
use Rattle.i86_code.proofs.coding.round_trip.Goals as goal

pub returns : goal.returns
returns c = written_again c.pair_laws.ensures.bytes c.pair_laws.ensures.words c.args.instruction c.args.rest.now c.instruction_fits.ensures
