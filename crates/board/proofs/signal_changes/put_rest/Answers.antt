use Rattle.board.proofs.Writing.{cut_longer, writes_after}
use Rattle.board.proofs.signal_changes.put_rest.Goals as goal

pub returns-in-Ok : goal.returns-in-Ok
returns-in-Ok g c = writes_after _ _ _ _ _ _ _ _ _ c.in-Ok.ensures c.put_all-in-Ok.ensures

pub returns-in-Err : goal.returns-in-Err
returns-in-Err g c = (cut_longer _ _ _ _ c.in-Err.ensures.0, c.in-Err.ensures.1)
