use Rattle.plm_token.proofs.Lawful.{longest_front}
use Rattle.plm_token.proofs.laws.front_is_longest.Goals as goal

pub returns : goal.returns
returns c = λ state. longest_front state c.args.text.now
