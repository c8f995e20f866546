use Rattle.std.proofs.Common.{◌≡◌, drop, false}
use Rattle.plm_token.specs.Inner.Front.{comment_length, further}
use Rattle.plm_token.proofs.lengths.comment_length.Given as goal

abbrev pub invariant-loop-i : goal.invariant-loop-i
invariant-loop-i l = comment_length false l.bytes ≡ further l.i (comment_length l.star (drop l.i l.bytes))
