use Rattle.listing_map.proofs.Writing.{cut_longer, writes_after}
use Rattle.listing_map.proofs.program_map.put_screen_name.Goals as goal

pub returns-in-Ok : goal.returns-in-Ok
returns-in-Ok g c = writes_after _ _ _ _ _ _ _ _ _ c.in-Ok.ensures (rw (c.page_word.ensures, c.as_slice.ensures.value) at c.put_place.ensures)

pub returns-in-Err : goal.returns-in-Err
returns-in-Err g c = (cut_longer _ _ _ _ c.in-Err.ensures.0, c.in-Err.ensures.1)
