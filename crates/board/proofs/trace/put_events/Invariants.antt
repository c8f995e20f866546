use Rattle.std.proofs.Common.{drop}
use Rattle.std.specs.Prelude.{map}
use Rattle.word86.specs.Event.{event_label}
use Rattle.board.specs.Trace.{lines}
use Rattle.board.proofs.Writing.{Took}
use Rattle.board.proofs.trace.put_events.Given as goal

abbrev pub invariant-loop-event : goal.invariant-loop-event
invariant-loop-event g l =
    Took (g.S.Sink.taken l.initial.sink) (g.S.Sink.taken l.sink) (g.S.Sink.failures l.initial.sink) (g.S.Sink.failures l.sink) (lines (map event_label l.events)) (lines (map event_label (drop l.event-index l.events)))
