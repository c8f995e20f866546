use Rattle.std.proofs.Common.{◌≡◌, drop, bytes_eq}
use Rattle.plm_token.specs.Names.{normal}
use Rattle.plm_token.proofs.letters.spells.Given as goal

abbrev pub invariant-loop-letter : goal.invariant-loop-letter
invariant-loop-letter l = bytes_eq (normal l.text) l.word ≡ bytes_eq (normal l.letters.rest.now) (drop l.letter-index l.word)
