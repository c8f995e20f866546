use Rattle.std.proofs.Common.{drop}
use Rattle.board.specs.Numbered.{numbered_lines}
use Rattle.board.proofs.Writing.{Took}
use Rattle.board.proofs.numbered.put_labels.Given as goal

abbrev pub invariant-loop-label : goal.invariant-loop-label
invariant-loop-label g l =
    Took (g.S.Sink.taken l.initial.sink) (g.S.Sink.taken l.sink) (g.S.Sink.failures l.initial.sink) (g.S.Sink.failures l.sink) (numbered_lines l.turn l.labels) (numbered_lines l.turn (drop l.label-index l.labels))
