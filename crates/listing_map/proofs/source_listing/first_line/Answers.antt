use Rattle.std.proofs.Common.{◌≡◌, false, List, ℕ, subst, take_all}
use Rattle.std.specs.Prelude.{◌==◌}
use Rattle.std.specs.List.{All}
use Rattle.std.proofs.lemmas.Bool.{ne_eqb}
use Rattle.std.proofs.lemmas.List.Elements.{All-more}
use Rattle.listing_map.proofs.Listed.{last_line}
use Rattle.listing_map.proofs.source_listing.first_line.Goals as goal

pub loop-index-preserved : goal.loop-index-preserved
loop-index-preserved c = All-more (λ b. (b == 10) ≡ false) c.args.text.now c.loop-index.index 0 c.loop-index-test.true c.loop-index.invariant (ne_eqb _ 10 c.if-byte-eq10.false)

pub returns-clause-lines : goal.returns-clause-lines
returns-clause-lines c =
    last_line c.args.text.now c.requires (subst (λ (l : List ℕ). All (λ b. (b == 10) ≡ false) l) (take_all c.loop-index.index c.args.text.now c.loop-index-test.false) c.loop-index.invariant)
