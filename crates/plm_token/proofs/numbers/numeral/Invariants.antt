use Rattle.std.proofs.Common.{◌≡◌, length}
use Rattle.plm_token.specs.Names.{normal}
use Rattle.plm_token.proofs.numbers.numeral.Given as goal

abbrev pub invariant-loop-last : goal.invariant-loop-last
invariant-loop-last l = normal l.text ≡ normal l.number

abbrev pub decreases-loop-last : goal.decreases-loop-last
decreases-loop-last l = length l.number
