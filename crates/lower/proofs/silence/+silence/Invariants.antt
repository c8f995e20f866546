use Rattle.std.proofs.Common.{◌≡◌, drop, true}
use Rattle.plm_type.specs.View.{statements_of}
use Rattle.lower.specs.Statements.{are_silent}
use Rattle.lower.proofs.silence.+silence.Given as goal

abbrev pub invariant-with_code-loop-k : goal.invariant-with_code-loop-k
invariant-with_code-loop-k l = are_silent (statements_of (drop l.k l.body)) ≡ true
