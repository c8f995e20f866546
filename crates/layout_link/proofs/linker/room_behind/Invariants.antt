use Rattle.std.proofs.Common.{◌≡◌, ◌+◌, drop}
use Rattle.layout_link.specs.Tasks.{bytes_of_tasks}
use Rattle.layout_link.proofs.linker.room_behind.Given as goal

abbrev pub invariant-loop-task : goal.invariant-loop-task
invariant-loop-task l = l.room + bytes_of_tasks (drop l.task-index l.tasks) ≡ l.left + bytes_of_tasks l.tasks
