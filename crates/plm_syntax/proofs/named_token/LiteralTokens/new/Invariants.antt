use Rattle.std.proofs.Common.{◌≡◌, ◌++◌, drop, map}
use Rattle.plm_syntax.specs.Inner.NamedToken.{symbol, named_symbol}
use Rattle.plm_syntax.proofs.named_token.LiteralTokens.new.Given as goal

abbrev pub invariant-loop-token : goal.invariant-loop-token
invariant-loop-token l = map symbol l.text ≡ map named_symbol l.tokens.items ++ map symbol (drop l.token-index l.text)
