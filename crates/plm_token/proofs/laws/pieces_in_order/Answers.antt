use Rattle.plm_token.proofs.Lawful.{in_order}
use Rattle.plm_token.proofs.laws.pieces_in_order.Goals as goal

pub returns : goal.returns
returns c = λ state line. in_order state line c.args.text.now
