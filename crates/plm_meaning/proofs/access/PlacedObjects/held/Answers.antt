use Rattle.std.proofs.Common.{◌≡◌, ◌∙◌, ◌-◌, Some, sym, ap, ap₂, true, false, slice_index, arith}
use Rattle.word86.specs.Access.{In}
use Rattle.word86.specs.Place.{covers}
use Rattle.plm_meaning.specs.Inner.Redex.{sizes_in}
use Rattle.plm_meaning.proofs.Owning.{owner_holds, nobody_holds}
use Rattle.plm_meaning.proofs.access.PlacedObjects.held.Goals as goal

pub returns-then-covers : goal.returns-then-covers
returns-then-covers c =
    let os = c.args.self.offsets.now in
    let ss = sizes_in c.args.self in
    let owners = c.args.owners.now in
    let owner = slice_index owners c.from.result in
    let e : covers (slice_index os owner) (slice_index ss owner) c.args.address c.args.count ≡ true =
    sym (c.covers.ensures ∙ ap₂ (λ o s. covers o s c.args.address c.args.count) (c.from-2.ensures ∙ c.offset-offset.ensures) c.size.ensures) ∙ c.if-covers.true in
    ap (λ o. Some (In owner (c.args.address - o))) c.offset-offset.ensures
    ∙ owner_holds owners os ss c.args.address c.args.count c.requires.owners (omega (arith, c.requires.owners.whole, c.ranges.address)) c.requires.some owner (ap (slice_index owners) c.from.ensures) e

pub returns-else-covers : goal.returns-else-covers
returns-else-covers c =
    let os = c.args.self.offsets.now in
    let ss = sizes_in c.args.self in
    let owners = c.args.owners.now in
    let owner = slice_index owners c.from.result in
    let e : covers (slice_index os owner) (slice_index ss owner) c.args.address c.args.count ≡ false =
    sym (c.covers.ensures ∙ ap₂ (λ o s. covers o s c.args.address c.args.count) (c.from-2.ensures ∙ c.offset-offset.ensures) c.size.ensures) ∙ c.if-covers.false in
    nobody_holds owners os ss c.args.address c.args.count c.requires.owners (omega (arith, c.requires.owners.whole, c.ranges.address)) c.requires.some owner (ap (slice_index owners) c.from.ensures) e
