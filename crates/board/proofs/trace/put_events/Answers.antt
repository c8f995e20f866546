use Rattle.board.proofs.Writing.{event_lines_from, took_breaks, took_more}
use Rattle.board.proofs.trace.put_events.Goals as goal

pub returns-in-Err : goal.returns-in-Err
returns-in-Err g c =
    took_breaks _ _ _ _ _ _ _ _ _ _ (event_lines_from c.args.events.now c.loop-event.event-index _ c.loop-event-test.true) c.loop-event.invariant (rw c.label.ensures at c.in-Err.ensures)

pub loop-event-preserved : goal.loop-event-preserved
loop-event-preserved g c =
    let h = rw c.label.ensures at c.in_default.ensures in
    took_more _ _ _ _ _ _ _ _ _ _ (event_lines_from c.args.events.now c.loop-event.event-index _ c.loop-event-test.true) c.loop-event.invariant h.0 h.1
