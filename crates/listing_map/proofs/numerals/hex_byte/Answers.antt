use Rattle.std.proofs.Common.{refl, arith}
use Rattle.listing_map.proofs.Pairs.{pair_there}
use Rattle.listing_map.proofs.numerals.hex_byte.Goals as goal

pub returns : goal.returns
returns c = pair_there _ _ c.args.value c.from-place.result refl refl (omega (arith, c.ranges.value)) c.from-place.ensures
