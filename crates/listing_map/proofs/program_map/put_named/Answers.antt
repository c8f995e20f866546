use Rattle.listing_map.proofs.Writing.{cut_longer, writes_after}
use Rattle.listing_map.proofs.program_map.put_named.Goals as goal

pub returns-in-Ok : goal.returns-in-Ok
returns-in-Ok g c = writes_after _ _ _ _ _ _ _ _ _ (rw c.names.ensures.names at c.in-Ok.ensures) c.put_handlers.ensures

pub returns-in-Err : goal.returns-in-Err
returns-in-Err g c =
    let cut = rw c.names.ensures.names at c.in-Err.ensures in
    (cut_longer _ _ _ _ cut.0, cut.1)
