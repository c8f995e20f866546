use Rattle.std.proofs.Common.{drop}
use Rattle.listing_map.specs.ProgramMap.{declared_lines, object_lines}
use Rattle.listing_map.proofs.Writing.{Took}
use Rattle.listing_map.proofs.program_map.put_declared.Given as goal

abbrev pub invariant-loop-name : goal.invariant-loop-name
invariant-loop-name g l =
    Took (g.S.Sink.taken l.initial.sink) (g.S.Sink.taken l.sink) (g.S.Sink.failures l.initial.sink) (g.S.Sink.failures l.sink)
    (declared_lines (object_lines l.offsets 0 l.objects) 0 l.screen_names)
    (declared_lines (object_lines l.offsets 0 l.objects) l.done (drop l.name-index l.screen_names))
