use Rattle.std.specs.Prelude.{slice_range}
use Rattle.std.specs.List.{concat}
use Rattle.listing_map.specs.ProgramMap.{object_lines}
use Rattle.listing_map.proofs.Writing.{Took}
use Rattle.listing_map.proofs.program_map.put_objects.Given as goal

abbrev pub invariant-loop-number : goal.invariant-loop-number
invariant-loop-number g l =
    Took (g.S.Sink.taken l.initial.sink) (g.S.Sink.taken l.sink) (g.S.Sink.failures l.initial.sink) (g.S.Sink.failures l.sink)
    (concat (slice_range (object_lines l.offsets 0 l.objects) l.from l.end))
    (concat (slice_range (object_lines l.offsets 0 l.objects) l.number l.end))
