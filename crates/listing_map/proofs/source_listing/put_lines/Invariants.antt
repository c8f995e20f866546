use Rattle.std.proofs.Common.{length}
use Rattle.listing_map.proofs.Listed.{IsListed}
use Rattle.listing_map.proofs.source_listing.put_lines.Given as goal

abbrev pub invariant-loop-rest : goal.invariant-loop-rest
invariant-loop-rest g l =
    IsListed (g.S.Sink.taken l.initial.sink) (g.S.Sink.taken l.sink) (g.S.Sink.failures l.initial.sink) (g.S.Sink.failures l.sink) l.fn.source l.warnings l.rest l.number l.warned

abbrev pub decreases-loop-rest : goal.decreases-loop-rest
decreases-loop-rest g l = length l.rest
