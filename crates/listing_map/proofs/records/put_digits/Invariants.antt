use Rattle.std.proofs.Common.{drop}
use Rattle.std.specs.List.{flat_map}
use Rattle.listing_map.specs.Lines.{hex2}
use Rattle.listing_map.proofs.Writing.{Took}
use Rattle.listing_map.proofs.records.put_digits.Given as goal

abbrev pub invariant-loop-byte : goal.invariant-loop-byte
invariant-loop-byte g l =
    Took (g.S.Sink.taken l.initial.sink) (g.S.Sink.taken l.sink) (g.S.Sink.failures l.initial.sink) (g.S.Sink.failures l.sink) (flat_map hex2 l.bytes) (flat_map hex2 (drop l.byte-index l.bytes))
