use Rattle.std.proofs.Common.{◌≡◌, ◌-◌, [], get_or}
use Rattle.listing_map.specs.SourceListing.{lines_of}
use Rattle.listing_map.proofs.explaining.lines.line_at.Given as goal

abbrev pub invariant-loop-before : goal.invariant-loop-before
invariant-loop-before l = get_or (lines_of l.rest) (l.line - 1 - l._before) [] ≡ get_or (lines_of l.text) (l.line - 1) []
