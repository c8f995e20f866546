use Rattle.std.proofs.Common.{◌≡◌, ◌++◌, drop, map}
use Rattle.plm_token.specs.Scanner.{lexemes}
use Rattle.plm_syntax.specs.Inner.Literals.{source_view, with_text}
use Rattle.plm_syntax.proofs.literals.prepare.Given as goal

abbrev pub invariant-loop-token : goal.invariant-loop-token
invariant-loop-token l = map with_text (lexemes l.tokens) ≡ map source_view l.sources.items ++ map with_text (lexemes (drop l.token-index l.tokens))
