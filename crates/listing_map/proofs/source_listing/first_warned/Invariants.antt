use Rattle.std.proofs.Common.{◌≤◌, take}
use Rattle.std.specs.List.{All}
use Rattle.listing_map.proofs.source_listing.first_warned.Given as goal

abbrev pub invariant-loop-warning : goal.invariant-loop-warning
invariant-loop-warning l = All (λ w. l.number ≤ w.line → l.first ≤ w.line) (take l.warning-index l.warnings)
