use Rattle.std.proofs.Common.{◌≡◌, length}
use Rattle.plm_token.specs.Pieces.{holds_include}
use Rattle.plm_token.proofs.front.holds_include.Given as goal

abbrev pub invariant-loop-behind : goal.invariant-loop-behind
invariant-loop-behind l = holds_include l.line ≡ holds_include l.rest

abbrev pub decreases-loop-behind : goal.decreases-loop-behind
decreases-loop-behind l = length l.rest
