use Rattle.std.proofs.Common.{◌≡◌, ◌++◌, map, length}
use Rattle.listing_map.specs.SourceListing.{lines_of}
use Rattle.listing_map.proofs.explaining.pages.lines_in.Given as goal

abbrev pub invariant-loop-rest : goal.invariant-loop-rest
invariant-loop-rest l = map (λ line. line.now) l.lines.items ++ lines_of l.rest ≡ lines_of l.text

abbrev pub decreases-loop-rest : goal.decreases-loop-rest
decreases-loop-rest l = length l.rest
