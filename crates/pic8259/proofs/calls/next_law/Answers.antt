use Rattle.pic8259.proofs.Priority.{pending_is_next, next_is_pending}
use Rattle.pic8259.proofs.calls.next_law.Goals as goal

pub returns-clause-next : goal.returns-clause-next
returns-clause-next c = pending_is_next

pub returns-clause-found : goal.returns-clause-found
returns-clause-found c = next_is_pending
