use Rattle.std.proofs.Common.{◌<◌, refl, map, length, subst, sym, ap, ◌∙◌}
use Rattle.std.proofs.Math.ListN.{set}
use Rattle.std.proofs.lemmas.List.{map-set}
use Rattle.plm_decl.specs.Inner.Resolver.{known_of}
use Rattle.plm_decl.specs.Names.{object_of}
use Rattle.plm_decl.specs.Fill.{given_at}
use Rattle.plm_decl.proofs.Updates.{seen_at}
use Rattle.plm_decl.proofs.resolver.Resolver.give_object.Goals as goal

pub returns-in_ok-push : goal.returns-in_ok-push
returns-in_ok-push c =
    let k = known_of c.args.self.now in
    let xs = c.args.self.now.objects.items in
    let x = c.in-Some.given.now in
    let n = c.args.object in
    let within : n < length xs = subst (λ m. n < m) c.args.self.now.objects.ok.0 (c.in-Some.ensures.variant.0 refl) in
    ap (λ os. record k { objects = os }) (map-set object_of xs n (record x { initial = c.push.new.self })
    ∙ ap (λ i. set (map object_of xs) n (record { path = x.path.items; size = x.size; initial = i })) c.in_ok-push.ensures.items)
    ∙ ap (λ o. given_at n c.args.datum o k) (sym (seen_at object_of xs n x within c.in-Some.ensures.value))
