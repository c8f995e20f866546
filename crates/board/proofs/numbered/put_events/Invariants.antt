use Rattle.std.proofs.Common.{drop}
use Rattle.std.specs.Prelude.{map}
use Rattle.word86.specs.Event.{event_label}
use Rattle.board.specs.Numbered.{numbered_lines}
use Rattle.board.proofs.Writing.{Took}
use Rattle.board.proofs.numbered.put_events.Given as goal

abbrev pub invariant-loop-event : goal.invariant-loop-event
invariant-loop-event g l =
    Took (g.S.Sink.taken l.initial.sink) (g.S.Sink.taken l.sink) (g.S.Sink.failures l.initial.sink) (g.S.Sink.failures l.sink) (numbered_lines l.turn (map event_label l.events)) (numbered_lines l.turn (map event_label (drop l.event-index l.events)))
