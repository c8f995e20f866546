use Rattle.std.proofs.Common.{drop}
use Rattle.board.specs.Trace.{lines}
use Rattle.board.proofs.Writing.{Took}
use Rattle.board.proofs.trace.put_labels.Given as goal

abbrev pub invariant-loop-label : goal.invariant-loop-label
invariant-loop-label g l =
    Took (g.S.Sink.taken l.initial.sink) (g.S.Sink.taken l.sink) (g.S.Sink.failures l.initial.sink) (g.S.Sink.failures l.sink) (lines (l.labels)) (lines (drop l.label-index l.labels))
