use Rattle.std.proofs.Common.{◌≡◌, drop}
use Rattle.plm_token.specs.Scanner.{lexemes}
use Rattle.plm_syntax.specs.Inner.Literals.{declare_none}
use Rattle.plm_syntax.proofs.literals.are_plain.Given as goal

abbrev pub invariant-loop-token : goal.invariant-loop-token
invariant-loop-token l = declare_none (lexemes l.tokens) ≡ declare_none (lexemes (drop l.token-index l.tokens))
