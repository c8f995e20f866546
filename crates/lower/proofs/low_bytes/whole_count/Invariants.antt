use Rattle.std.proofs.Common.{◌≡◌, drop}
use Rattle.lower.specs.Inner.LowBytes.{whole_count}
use Rattle.lower.proofs.LowTrees.{counted_after}
use Rattle.lower.proofs.low_bytes.whole_count.Given as goal

abbrev pub invariant-loop-k : goal.invariant-loop-k
invariant-loop-k l = counted_after l.k l.count (whole_count (drop l.k l.operations)) ≡ whole_count l.operations
