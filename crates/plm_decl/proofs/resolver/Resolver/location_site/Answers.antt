use Rattle.std.proofs.Common.{[], ◌∷◌, ◌++◌, map, sym, ap, ◌∙◌}
use Rattle.std.proofs.lemmas.List.{map-append}
use Rattle.plm_syntax.specs.Tree.{LocationT, LocationOf}
use Rattle.plm_syntax.specs.View as tree
use Rattle.plm_decl.specs.Inner.Scope.{frames_of}
use Rattle.plm_decl.specs.Names.{declared_location_of}
use Rattle.plm_decl.specs.Inner.Resolver.{known_of}
use Rattle.plm_decl.specs.Resolved as resolved
use Rattle.plm_decl.specs.Sites.{site_of, location_site}
use Rattle.plm_decl.proofs.TreeViews.{reference_laid, reference_placed}
use Rattle.plm_decl.proofs.resolver.Resolver.location_site.Goals as goal

pub returns-in_ok-push-in-Reference : goal.returns-in_ok-push-in-Reference
returns-in_ok-push-in-Reference c =
    let frames = frames_of c.args.scope.now in
    let k = known_of c.args.self.now in
    let at = c.in-Reference in
    let did = c.in_ok-reference-in-Reference in
    let q = known_of c.reference.new.self in
    let kept = ap (map declared_location_of) c.in_ok-push-in-Reference.ensures.items ∙ map-append declared_location_of c.reference.new.self.locations.items _ in
    let placed = (λ j. (reference_placed did.reference j, q)) ∙ did.ensures in
    (λ j. (c.site_of-site.ensures j, record q { locations = kept j }))
    ∙ (λ j. (
      site_of (did.ensures j).1 (did.ensures j).0,
      record (placed j).1 {
        locations = (placed j).1.locations ++ record { «module» = (placed j).1.module; location = resolved.LocationOf at.place at.form (placed j).0 } ∷ [];
      },
    ))
    ∙ ap (λ (l : LocationT). location_site frames l k) (sym (ap tree.location_of at.is ∙ ap (LocationOf at.place at.form) (reference_laid at.reference)))
