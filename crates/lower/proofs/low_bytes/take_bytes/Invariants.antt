use Rattle.std.proofs.Common.{◌≡◌, drop}
use Rattle.lower.proofs.LowTrees.{taking}
use Rattle.lower.proofs.low_bytes.take_bytes.Given as goal

abbrev pub invariant-loop-other : goal.invariant-loop-other
invariant-loop-other l = taking l.all (drop l.other-index l.others) ≡ taking l.initial.all l.others
