use Rattle.listing_map.proofs.Writing.{writes_after}
use Rattle.listing_map.proofs.pieces.put_two.Goals as goal

pub returns : goal.returns
returns g c = writes_after _ _ _ _ _ _ _ _ _ c.in_ok-put_all.ensures c.put_all-2.ensures
