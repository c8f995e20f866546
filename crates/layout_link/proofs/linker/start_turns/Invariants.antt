use Rattle.std.proofs.Common.{◌≡◌, ◌+◌, drop}
use Rattle.layout_link.specs.Startup.{turns_without_acts}
use Rattle.layout_link.specs.Inner.Head.{turns_of_tasks}
use Rattle.layout_link.proofs.linker.start_turns.Given as goal

abbrev pub invariant-loop-task : goal.invariant-loop-task
invariant-loop-task l = l.turns + turns_of_tasks (drop l.task-index l.tasks) ≡ turns_without_acts + turns_of_tasks l.tasks
