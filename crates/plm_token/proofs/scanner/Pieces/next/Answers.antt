use Rattle.plm_token.proofs.Skips.{next_piece}
use Rattle.plm_token.proofs.scanner.Pieces.next.Goals as goal

pub returns-clause-some : goal.returns-clause-some
returns-clause-some c = λ line.
    rw c.state_after-self.ensures
    (next_piece c.args.self.now.state line c.args.self.now.rest.now c.split_at.result.0.now c.split_at.result.1.now c.front-found.result c.front-found.ensures.value c.front-found.ensures.some c.front-found.ensures.inside c.split_at.ensures.front c.split_at.ensures.back)
