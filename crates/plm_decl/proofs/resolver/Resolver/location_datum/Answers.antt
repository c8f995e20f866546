use Rattle.std.proofs.Common.{◌≡◌, ℕ, List, Option, refl, sym, ap, ◌∙◌}
use Rattle.std.specs.Prelude.{slice_get}
use Rattle.std.proofs.lemmas.Option.{slice_get_past, slice_get_read}
use Rattle.plm_syntax.specs.declared.tree.Position.{Position}
use Rattle.plm_decl.specs.declared.names.Variable.{Variable}
use Rattle.plm_decl.specs.declared.resolved.Location.{Location}
use Rattle.plm_decl.specs.declared.resolved.Binding.{Binding}
use Rattle.plm_decl.specs.declared.resolved.Binding.TheVariants as binding
use Rattle.plm_decl.specs.Resolver.{Known}
use Rattle.plm_decl.specs.Inner.Resolver.{known_of}
use Rattle.plm_decl.specs.Resolved.{ExpressionsR, SelectorR, Use}
use Rattle.plm_decl.specs.ResolvedView as view
use Rattle.plm_decl.specs.Sites.{distance}
use Rattle.plm_decl.specs.Fill.{address_datum, variable_datum, reference_datum, location_datum}
use Rattle.plm_decl.proofs.TreeViews.{reference_placed}
use Rattle.plm_decl.proofs.resolver.Resolver.location_datum.Goals as goal

-- where the name means a variable
of_variable : (k : Known) (p : Position) (m : Binding) (n : ℕ) (es : ExpressionsR) (s : SelectorR) → m ≡ binding.Variable n
    → variable_datum n (slice_get k.variables n) (distance k (Use p m es s)) ≡ reference_datum k (Use p m es s)
of_variable k p m n es s e =
    ap (λ (m : Binding). variable_datum n (slice_get k.variables n) (distance k (Use p m es s))) e ∙ sym (ap (λ (m : Binding). reference_datum k (Use p m es s)) e)

pub returns-in-Some : goal.returns-in-Some
returns-in-Some c =
    let k = known_of c.args.self.now in
    let x = c.in-Reference.reference in
    let n = c.in-Variable.number in
    let y = view.reference_of x in
    c.address_datum.ensures
    ∙ ap (address_datum n c.in-Some.variable.now.region) c.distance.ensures
    ∙ ap (λ (o : Option Variable). variable_datum n o (distance k y)) (sym (slice_get_read c.deref.result.now _ n c.in-Some.variable.now refl c.in-Some.ensures.lookup.3.0 c.in-Some.ensures.lookup.1) ∙ ap (λ (vs : List Variable). slice_get vs n) c.deref.ensures.value)
    ∙ of_variable k x.place x.binding n (view.expressions_of x.subscripts.items) (view.selector_of x.selector) c.in-Variable.is
    ∙ ap (reference_datum k) (sym (reference_placed x))
    ∙ ap (λ (l : Location). location_datum k (view.location_of l)) (sym c.in-Reference.is)

pub returns-in-None : goal.returns-in-None
returns-in-None c =
    let k = known_of c.args.self.now in
    let x = c.in-Reference.reference in
    let n = c.in-Variable.number in
    let y = view.reference_of x in
    ap (λ (o : Option Variable). variable_datum n o (distance k y)) (sym (slice_get_past c.deref.result.now n c.in-None.ensures.lookup.3) ∙ ap (λ (vs : List Variable). slice_get vs n) c.deref.ensures.value)
    ∙ of_variable k x.place x.binding n (view.expressions_of x.subscripts.items) (view.selector_of x.selector) c.in-Variable.is
    ∙ ap (reference_datum k) (sym (reference_placed x))
    ∙ ap (λ (l : Location). location_datum k (view.location_of l)) (sym c.in-Reference.is)
