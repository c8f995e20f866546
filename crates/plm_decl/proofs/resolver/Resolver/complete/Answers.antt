use Rattle.std.proofs.Common.{◌<◌, refl, length, subst, sym, ap, ◌∙◌}
use Rattle.std.proofs.lemmas.List.{map-set}
use Rattle.plm_decl.specs.Inner.Resolver.{known_of}
use Rattle.plm_decl.specs.Names.{procedure_of}
use Rattle.plm_decl.specs.ResolvedView.{statements_of}
use Rattle.plm_decl.specs.Procedures.{completed_at}
use Rattle.plm_decl.proofs.Updates.{seen_at}
use Rattle.plm_decl.proofs.resolver.Resolver.complete.Goals as goal

pub returns-in-Some : goal.returns-in-Some
returns-in-Some c =
    let k = known_of c.args.self.now in
    let xs = c.args.self.now.procedures.items in
    let x = c.in-Some.procedure.now in
    let within : c.args.number < length xs = subst (λ n. c.args.number < n) c.args.self.now.procedures.ok.0 (c.in-Some.ensures.variant.0 refl) in
    ap (λ ps. record k { procedures = ps }) (map-set procedure_of xs c.args.number (record x { parameters = c.args.parameters; body = c.args.body }))
    ∙ ap (λ o. completed_at c.args.number c.args.parameters.items (statements_of c.args.body.items) o k) (sym (seen_at procedure_of xs c.args.number x within c.in-Some.ensures.value))
