use Rattle.std.proofs.Common.{◌≡◌, [], append-nil}
use Rattle.listing_map.specs.SourceListing.{warning_lines}
use Rattle.listing_map.proofs.Listed.{none_warned}
use Rattle.listing_map.proofs.Writing.{cut_longer, fails_after}
use Rattle.listing_map.proofs.source_listing.put_with_warnings.Goals as goal

pub returns-in-Err-clause-text : goal.returns-in-Err-clause-text
returns-in-Err-clause-text g c = (cut_longer _ _ _ _ c.in-Err.ensures.0, c.in-Err.ensures.1)

pub returns-then-number-warned-clause-text : goal.returns-then-number-warned-clause-text
returns-then-number-warned-clause-text g c =
    let none : warning_lines c.args.number c.args.warnings.now ≡ [] = none_warned c.args.number c.args.warned c.args.warnings.now c.requires.none c.if-number-warned.true in
    rw (none, append-nil) c.in-Ok.ensures

pub returns-in-Err-put_warnings-clause-text : goal.returns-in-Err-put_warnings-clause-text
returns-in-Err-put_warnings-clause-text g c = fails_after _ _ _ _ _ _ _ _ c.in-Ok.ensures c.in-Err-put_warnings.ensures
