use Rattle.std.proofs.Common.{◌≡◌, drop}
use Rattle.plm_token.specs.Scanner.{lexemes}
use Rattle.listing_map.specs.Explaining.{has_token}
use Rattle.listing_map.proofs.explaining.has_token.Given as goal

abbrev pub invariant-loop-token : goal.invariant-loop-token
invariant-loop-token l = has_token (lexemes (drop l.token-index l.tokens)) l.line l.spelled ≡ has_token (lexemes l.tokens) l.line l.spelled
