use Rattle.std.proofs.Common.{◌≡◌, length, bytes_eq}
use Rattle.plm_token.specs.Names.{normal, names_equal}
use Rattle.plm_token.proofs.letters.same_name.Given as goal

abbrev pub invariant-loop-letter : goal.invariant-loop-letter
invariant-loop-letter l = names_equal l.a l.b ≡ bytes_eq (normal l.left.rest.now) (normal l.right.rest.now)

abbrev pub decreases-loop-letter : goal.decreases-loop-letter
decreases-loop-letter l = length l.left.rest.now
