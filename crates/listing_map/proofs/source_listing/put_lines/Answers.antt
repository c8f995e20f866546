use Rattle.std.proofs.Common.{ap, arith}
use Rattle.listing_map.specs.SourceListing.{listing_lines}
use Rattle.listing_map.proofs.Writing.{took_breaks, took_more}
use Rattle.listing_map.proofs.source_listing.put_lines.Goals as goal

pub returns-in-Err : goal.returns-in-Err
returns-in-Err g c =
    took_breaks _ _ _ _ _ _ _ _ _ _ (ap (listing_lines c.loop-rest.number c.args.warnings.now) c.first_line.ensures.lines) c.loop-rest.invariant.took c.in-Err.ensures.text

pub loop-rest-preserved : goal.loop-rest-preserved
loop-rest-preserved g c = record {
  took = took_more _ _ _ _ _ _ _ _ _ _ (ap (listing_lines c.loop-rest.number c.args.warnings.now) c.first_line.ensures.lines) c.loop-rest.invariant.took c.in-Ok.ensures.text.0 c.in-Ok.ensures.text.1;
  room = omega (arith, c.loop-rest.invariant.room, c.first_line.ensures.less);
  none = c.in-Ok.ensures.next;
}
