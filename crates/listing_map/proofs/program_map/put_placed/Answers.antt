use Rattle.listing_map.proofs.Writing.{cut_longer, writes_after}
use Rattle.listing_map.proofs.program_map.put_placed.Goals as goal

pub returns-in-Ok : goal.returns-in-Ok
returns-in-Ok g c =
    writes_after _ _ _ _ _ _ _ _ _ (rw c.as_slice-rom.ensures.value at c.in-Ok.ensures)
    (rw (c.offsets-offsets.ensures, c.as_slice-objects.ensures.value, c.as_slice-screen_names.ensures.value) at c.put_declared.ensures)

pub returns-in-Err : goal.returns-in-Err
returns-in-Err g c =
    let fails = rw c.as_slice-rom.ensures.value at c.in-Err.ensures in
    (cut_longer _ _ _ _ fails.0, fails.1)
