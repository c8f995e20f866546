use Rattle.std.proofs.Common.{◌≡◌, ◌+◌, ◌++◌, length, map, vec_items, drop}
use Rattle.lower.specs.Statements.{all_of, entries}
use Rattle.lower.proofs.cases.enter.Given as goal

abbrev pub invariant-loop-k : goal.invariant-loop-k
invariant-loop-k l = record {
  entered : l.code.items ++ entries l.before (map vec_items (drop l.k l.cases)) ≡ l.initial.code.items ++ entries 0 (map vec_items l.cases);
  passed : l.before + length (all_of (map vec_items (drop l.k l.cases))) ≡ length (all_of (map vec_items l.cases));
}
