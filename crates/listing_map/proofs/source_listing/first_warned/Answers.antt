use Rattle.std.proofs.Common.{◌≤◌, sym, subst, take_all, List}
use Rattle.std.specs.List.{All}
use Rattle.plm_type.specs.declared.sharing.Warning.{Warning}
use Rattle.listing_map.proofs.Listed.{first_more}
use Rattle.listing_map.proofs.source_listing.first_warned.Goals as goal

pub loop-warning-preserved : goal.loop-warning-preserved
loop-warning-preserved c =
    let default : Warning = record { «module» = 0; line = 0 } in
    first_more c.args.warnings.now c.loop-warning.warning-index default c.args.number c.loop-warning.first c.nearer-first.result c.loop-warning-test.true c.loop-warning.invariant c.nearer-first.ensures.first (rw (sym c.from.ensures) c.nearer-first.ensures.line)

pub returns : goal.returns
returns c = subst (λ (ws : List Warning). All (λ w. c.args.number ≤ w.line → c.loop-warning.first ≤ w.line) ws) (take_all c.loop-warning.warning-index c.args.warnings.now c.loop-warning-test.false) c.loop-warning.invariant
