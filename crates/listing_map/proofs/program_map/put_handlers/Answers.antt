use Rattle.listing_map.proofs.Placed.{handlers_from, handlers_none}
use Rattle.listing_map.proofs.Writing.{took_breaks, took_end, took_more}
use Rattle.listing_map.proofs.program_map.put_handlers.Goals as goal

pub returns-in-Err : goal.returns-in-Err
returns-in-Err g c =
    took_breaks _ _ _ _ _ _ _ _ _ _ (handlers_from c.loop-number.number c.args.program.now.names c.loop-number-test.true) c.loop-number.invariant (rw c.handler_name.ensures at c.in-Err.ensures)

pub loop-number-preserved : goal.loop-number-preserved
loop-number-preserved g c =
    let line = rw c.handler_name.ensures at c.in_default.ensures in
    took_more _ _ _ _ _ _ _ _ _ _ (handlers_from c.loop-number.number c.args.program.now.names c.loop-number-test.true) c.loop-number.invariant line.0 line.1

pub returns : goal.returns
returns g c = took_end _ _ _ _ _ _ c.loop-number.invariant (handlers_none c.loop-number.number c.args.program.now.names c.loop-number-test.false)
