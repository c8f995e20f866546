use Rattle.std.proofs.Common.{inr, sym, subst}
use Rattle.select.specs.Inner.Settling.{IsSettling}
use Rattle.std.proofs.Common.{set}
use Rattle.select.specs.Sizes.{IsInReach}
use Rattle.select.proofs.Lengthening.{made_long, more_bytes}
use Rattle.select.proofs.sizes.look.Goals as goal

pub returns-then-not-is_in_reach-clause-settling :
    goal.returns-then-not-is_in_reach-clause-settling
returns-then-not-is_in_reach-clause-settling c =
    let far : IsInReach c.args.sizes.now c.args.at c.in-Jump.target → ⊥ = λ r. let e = c.is_in_reach.ensures.1 r in let f = c.if-not-is_in_reach.true in absurd (cc) in
    let done = made_long c.args.extents.now c.args.sizes.now c.args.at c.in-Jump.target c.in-Jump.long c.requires.extents c.in-Jump.is c.requires.at far c.if-sizes-at-eq-SHORT.true c.requires.settling in
    subst (IsSettling c.args.extents.now (set c.args.sizes.now c.args.at c.in-Jump.long)) (sym c.saturating_sub.ensures) done

pub returns-then-not-is_in_reach-clause-advances :
    goal.returns-then-not-is_in_reach-clause-advances
returns-then-not-is_in_reach-clause-advances c =
    let far : IsInReach c.args.sizes.now c.args.at c.in-Jump.target → ⊥ = λ r. let e = c.is_in_reach.ensures.1 r in let f = c.if-not-is_in_reach.true in absurd (cc) in
    inr (more_bytes c.args.extents.now c.args.sizes.now c.args.at c.in-Jump.target c.in-Jump.long c.requires.extents c.in-Jump.is c.requires.at far c.if-sizes-at-eq-SHORT.true c.requires.settling)
