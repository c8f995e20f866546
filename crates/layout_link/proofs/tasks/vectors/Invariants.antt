use Rattle.std.proofs.Common.{◌≡◌, ◌-◌, ◌++◌}
use Rattle.layout_link.specs.Tasks.{vector_tasks}
use Rattle.layout_link.proofs.tasks.vectors.Given as goal

abbrev pub invariant-loop-number : goal.invariant-loop-number
invariant-loop-number l = vector_tasks l.parts 0 256 ≡ l.tasks.items ++ vector_tasks l.parts l.number (256 - l.number)
