use Rattle.std.proofs.Common.{◌≡◌, drop}
use Rattle.plm_token.specs.Names.{normal}
use Rattle.plm_syntax.proofs.name.is_as_written.Given as goal

abbrev pub invariant-loop-letter : goal.invariant-loop-letter
invariant-loop-letter l = normal (drop l.letter-index l.text) ≡ drop l.letter-index l.text → normal l.text ≡ l.text
