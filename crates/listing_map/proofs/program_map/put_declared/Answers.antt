use Rattle.listing_map.specs.ProgramMap.{object_lines}
use Rattle.listing_map.proofs.Placed.{names_from, names_none}
use Rattle.listing_map.proofs.Writing.{took_breaks, took_last, took_more}
use Rattle.listing_map.proofs.program_map.put_declared.Goals as goal

pub returns-in-Err : goal.returns-in-Err
returns-in-Err g c =
    took_breaks _ _ _ _ _ _ _ _ _ _ (names_from (object_lines c.args.offsets.now 0 c.args.objects.now) c.loop-name.done c.args.screen_names.now c.loop-name.name-index c.name-item.result c.loop-name-test.true c.name-item.is) c.loop-name.invariant c.in-Err.ensures

pub loop-name-preserved : goal.loop-name-preserved
loop-name-preserved g c =
    rw c.max-done.ensures (took_more _ _ _ _ _ _ _ _ _ _ (names_from (object_lines c.args.offsets.now 0 c.args.objects.now) c.loop-name.done c.args.screen_names.now c.loop-name.name-index c.name-item.result c.loop-name-test.true c.name-item.is) c.loop-name.invariant c.in_default.ensures.0 c.in_default.ensures.1)

pub returns : goal.returns
returns g c =
    took_last _ _ _ _ _ _ _ _ _ _ (names_none c.args.offsets.now c.args.objects.now c.loop-name.done c.args.screen_names.now c.loop-name.name-index c.loop-name-test.false) c.loop-name.invariant c.put_objects.ensures
