use Rattle.std.proofs.Common.{◌≡◌, ◌<◌, ◌+◌, ◌++◌, length}
use Rattle.layout_link.specs.Initial.{puts}
use Rattle.layout_link.proofs.initial.put.Given as goal

abbrev pub invariant-loop-rest : goal.invariant-loop-rest
invariant-loop-rest l = record {
  so_far : l.fn.tasks.items ++ puts l.fn.to l.bytes ≡ l.tasks.items ++ puts l.to l.rest;
  room : l.to + length l.rest < 65536;
}

abbrev pub decreases-loop-rest : goal.decreases-loop-rest
decreases-loop-rest l = length l.rest
