use Rattle.std.proofs.Common.{◌≡◌, ◌++◌, map, drop}
use Rattle.plm_type.specs.View.{scalar_of}
use Rattle.lower.specs.Expressions.{passing}
use Rattle.lower.proofs.expressions.pass.Given as goal

abbrev pub invariant-loop-k : goal.invariant-loop-k
invariant-loop-k l = l.code.items ++ passing (map scalar_of (drop l.k l.parameters)) ≡ l.initial.code.items ++ passing (map scalar_of l.parameters)
