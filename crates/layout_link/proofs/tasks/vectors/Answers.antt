use Rattle.std.proofs.Common.{◌++◌, ap, ◌∙◌}
use Rattle.layout_link.specs.Tasks.{vector_task, vector_tasks}
use Rattle.layout_link.proofs.Tasking.{one_vector, all_vectors}
use Rattle.layout_link.proofs.tasks.vectors.Goals as goal

pub loop-number-preserved : goal.loop-number-preserved
loop-number-preserved c =
    one_vector c.args.parts.now c.loop-number.number (vector_tasks c.args.parts.now 0 256) c.loop-number.tasks.items c.lead.new.tasks.items c.loop-number-test.true c.loop-number.invariant
    (c.in_ok-lead.ensures.tasks ∙ ap (λ p. c.loop-number.tasks.items ++ vector_task c.loop-number.number p) c.serving.ensures)

pub returns-clause-tasks : goal.returns-clause-tasks
returns-clause-tasks c = all_vectors c.args.parts.now c.loop-number.number (vector_tasks c.args.parts.now 0 256) c.loop-number.tasks.items c.loop-number-test.false c.loop-number.invariant
