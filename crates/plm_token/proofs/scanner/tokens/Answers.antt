use Rattle.plm_token.proofs.Gathered.{all_gathered}
use Rattle.plm_token.proofs.scanner.tokens.Goals as goal

pub returns : goal.returns
returns c = all_gathered _ _ _ _ _ c.loop-piece.invariant.gathered c.in_default.ensures.none
