use Rattle.std.proofs.Common.{length, ◌+◌, ◌/◌}
use Rattle.listing_map.specs.Records.{data_lines}
use Rattle.listing_map.proofs.Writing.{Took}
use Rattle.listing_map.proofs.records.put_data.Given as goal

abbrev pub invariant-loop-rest : goal.invariant-loop-rest
invariant-loop-rest g l =
    Took (g.S.Sink.taken l.initial.sink) (g.S.Sink.taken l.sink) (g.S.Sink.failures l.initial.sink) (g.S.Sink.failures l.sink) (data_lines ((length l.fn.rom + 15) / 16) l.fn.rom) (data_lines ((length l.rest + 15) / 16) l.rest)

abbrev pub decreases-loop-rest : goal.decreases-loop-rest
decreases-loop-rest g l = length l.rest
