use Rattle.std.proofs.Common.{◌≡◌, ◌++◌, drop}
use Rattle.layout_link.specs.Inner.Head.{to_entry, all_of}
use Rattle.layout_link.proofs.startup.start_up.Given as goal

abbrev pub invariant-loop-task : goal.invariant-loop-task
invariant-loop-task l = to_entry l.entry ++ all_of l.places l.from l.tasks ≡ l.head.items ++ all_of l.places l.from (drop l.task-index l.tasks)
