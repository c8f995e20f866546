use Rattle.std.proofs.Common.{◌≡◌, drop}
use Rattle.plm_type.specs.View.{statements_of}
use Rattle.lower.specs.Expressions.{are_giving}
use Rattle.lower.proofs.callees.+giving.Given as goal

abbrev pub invariant-are_giving-loop-statement : goal.invariant-are_giving-loop-statement
invariant-are_giving-loop-statement l = are_giving (statements_of (drop l.statement-index l.body)) ≡ are_giving (statements_of l.body)
