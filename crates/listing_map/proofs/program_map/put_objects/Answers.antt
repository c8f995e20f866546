use Rattle.std.proofs.Common.{◌<◌, min, length, sym}
use Rattle.listing_map.proofs.Placed.{objects_from, objects_none}
use Rattle.listing_map.proofs.Writing.{took_breaks, took_end, took_more}
use Rattle.listing_map.proofs.program_map.put_objects.Goals as goal

pub returns-in-Err : goal.returns-in-Err
returns-in-Err g c =
    let below : c.loop-number.number < min c.args.end (length c.args.objects.now) = rw (sym c.min-number-end.ensures) c.loop-number-test.true in
    took_breaks _ _ _ _ _ _ _ _ _ _ (objects_from c.args.offsets.now c.args.objects.now c.loop-number.number c.args.end c.index-objects-number.result below c.index-objects-number.is) c.loop-number.invariant (rw c.offset_of.ensures at c.in-Err.ensures)

pub loop-number-preserved : goal.loop-number-preserved
loop-number-preserved g c =
    let below : c.loop-number.number < min c.args.end (length c.args.objects.now) = rw (sym c.min-number-end.ensures) c.loop-number-test.true in
    let line = rw c.offset_of.ensures at c.in_default.ensures in
    took_more _ _ _ _ _ _ _ _ _ _ (objects_from c.args.offsets.now c.args.objects.now c.loop-number.number c.args.end c.index-objects-number.result below c.index-objects-number.is) c.loop-number.invariant line.0 line.1

pub returns : goal.returns
returns g c = took_end _ _ _ _ _ _ c.loop-number.invariant (objects_none c.args.offsets.now c.args.objects.now c.loop-number.number c.args.end (rw c.min-number-end.ensures at c.loop-number-test.false))
