use Rattle.std.proofs.Common.{◌≡◌, ◌++◌, map, vec_items, drop}
use Rattle.lower.specs.Statements.{all_of}
use Rattle.lower.proofs.cases.join.Given as goal

abbrev pub invariant-loop-case : goal.invariant-loop-case
invariant-loop-case l = l.code.items ++ all_of (map vec_items (drop l.case-index l.cases)) ≡ l.initial.code.items ++ all_of (map vec_items l.cases)
