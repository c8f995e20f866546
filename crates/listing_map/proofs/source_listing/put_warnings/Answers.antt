use Rattle.listing_map.proofs.Listed.{flat_map_from}
use Rattle.listing_map.proofs.Writing.{took_breaks, took_more}
use Rattle.listing_map.proofs.source_listing.put_warnings.Goals as goal

pub returns-in-Err : goal.returns-in-Err
returns-in-Err g c =
    took_breaks _ _ _ _ _ _ _ _ _ _ (flat_map_from _ c.args.warnings.now c.loop-warning.warning-index _ c.loop-warning-test.true) c.loop-warning.invariant c.in-Err.ensures

pub loop-warning-preserved : goal.loop-warning-preserved
loop-warning-preserved g c =
    took_more _ _ _ _ _ _ _ _ _ _ (flat_map_from _ c.args.warnings.now c.loop-warning.warning-index _ c.loop-warning-test.true) c.loop-warning.invariant c.in_default.ensures.0 c.in_default.ensures.1
