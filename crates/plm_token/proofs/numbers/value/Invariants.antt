use Rattle.std.proofs.Common.{◌≡◌, ◌≤◌, length}
use Rattle.plm_token.specs.Names.{normal}
use Rattle.plm_token.specs.Numbers.{digits_from}
use Rattle.plm_token.proofs.numbers.value.Given as goal

abbrev pub invariant-loop-letter : goal.invariant-loop-letter
invariant-loop-letter l = record { same : digits_from l.base 0 (normal l.digits) ≡ digits_from l.base l.value (normal l.letters.rest.now); inside : l.value ≤ 1048575 }

abbrev pub decreases-loop-letter : goal.decreases-loop-letter
decreases-loop-letter l = length l.letters.rest.now
