use Rattle.board.proofs.Counted.{events_from}
use Rattle.board.proofs.Writing.{took_breaks, took_more}
use Rattle.board.proofs.numbered.put_events.Goals as goal

pub returns-in-Err : goal.returns-in-Err
returns-in-Err g c =
    took_breaks _ _ _ _ _ _ _ _ _ _ (events_from c.args.turn c.args.events.now c.loop-event.event-index _ c.loop-event-test.true) c.loop-event.invariant (rw c.label.ensures at c.in-Err.ensures)

pub loop-event-preserved : goal.loop-event-preserved
loop-event-preserved g c =
    let h = rw c.label.ensures at c.in_default.ensures in
    took_more _ _ _ _ _ _ _ _ _ _ (events_from c.args.turn c.args.events.now c.loop-event.event-index _ c.loop-event-test.true) c.loop-event.invariant h.0 h.1
