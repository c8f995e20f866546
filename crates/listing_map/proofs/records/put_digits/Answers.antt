use Rattle.listing_map.specs.Lines.{hex2}
use Rattle.listing_map.proofs.Listed.{flat_map_from}
use Rattle.listing_map.proofs.Writing.{took_breaks, took_more}
use Rattle.listing_map.proofs.records.put_digits.Goals as goal

pub returns-in-Err : goal.returns-in-Err
returns-in-Err g c =
    took_breaks _ _ _ _ _ _ _ _ _ _ (flat_map_from hex2 c.args.bytes.now c.loop-byte.byte-index 0 c.loop-byte-test.true) c.loop-byte.invariant (rw c.hex_byte.ensures at c.in-Err.ensures)

pub loop-byte-preserved : goal.loop-byte-preserved
loop-byte-preserved g c =
    let h = rw c.hex_byte.ensures at c.in_default.ensures in
    took_more _ _ _ _ _ _ _ _ _ _ (flat_map_from hex2 c.args.bytes.now c.loop-byte.byte-index 0 c.loop-byte-test.true) c.loop-byte.invariant h.0 h.1
