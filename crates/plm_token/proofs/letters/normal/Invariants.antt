use Rattle.std.proofs.Common.{◌≡◌, ◌++◌, drop}
use Rattle.plm_token.specs.Names.{normal}
use Rattle.plm_token.proofs.letters.normal.Given as goal

abbrev pub invariant-loop-letter : goal.invariant-loop-letter
invariant-loop-letter l = l.letters.items ++ normal (drop l.letter-index l.name) ≡ normal l.name
