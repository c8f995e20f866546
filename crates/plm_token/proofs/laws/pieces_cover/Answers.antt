use Rattle.plm_token.proofs.Lawful.{all_covered}
use Rattle.plm_token.proofs.laws.pieces_cover.Goals as goal

pub returns : goal.returns
returns c = λ state line. all_covered state line c.args.text.now
