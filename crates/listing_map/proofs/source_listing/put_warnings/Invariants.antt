use Rattle.std.proofs.Common.{drop}
use Rattle.listing_map.specs.SourceListing.{warning_lines}
use Rattle.listing_map.proofs.Writing.{Took}
use Rattle.listing_map.proofs.source_listing.put_warnings.Given as goal

abbrev pub invariant-loop-warning : goal.invariant-loop-warning
invariant-loop-warning g l =
    Took (g.S.Sink.taken l.initial.sink) (g.S.Sink.taken l.sink) (g.S.Sink.failures l.initial.sink) (g.S.Sink.failures l.sink) (warning_lines l.number l.warnings) (warning_lines l.number (drop l.warning-index l.warnings))
