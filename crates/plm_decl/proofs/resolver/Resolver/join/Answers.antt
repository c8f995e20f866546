use Rattle.std.proofs.Common.{◌<◌, refl, length, subst, sym, ap, ◌∙◌}
use Rattle.std.proofs.lemmas.List.{map-set}
use Rattle.plm_decl.specs.Inner.Resolver.{known_of}
use Rattle.plm_decl.specs.Names.{procedure_of}
use Rattle.plm_decl.specs.Joins.{entry_joined, joined}
use Rattle.plm_decl.proofs.Updates.{seen_at}
use Rattle.plm_decl.proofs.resolver.Resolver.join.Goals as goal

pub returns-in-Some-get_mut-2 : goal.returns-in-Some-get_mut-2
returns-in-Some-get_mut-2 c =
    let k = known_of c.args.self.now in
    let xs = c.args.self.now.procedures.items in
    let x = c.in-Some-get_mut-2.procedure.now in
    let m = c.in-Procedure-Procedure.a in
    let n = c.in-Procedure-Procedure.b in
    let within : m < length xs = subst (λ l. m < l) c.args.self.now.procedures.ok.0 (c.in-Some-get_mut-2.ensures.variant.0 refl) in
    ap (λ ps. record k { procedures = ps }) (map-set procedure_of xs m (record x { entry = n }))
    ∙ ap (λ o. entry_joined m o n k) (sym (seen_at procedure_of xs m x within c.in-Some-get_mut-2.ensures.value))
    ∙ (λ j. joined (sym c.in-Procedure-Procedure.is-0 j) (sym c.in-Procedure-Procedure.is-1 j) k)
