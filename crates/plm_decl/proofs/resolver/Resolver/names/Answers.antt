use Rattle.std.proofs.Common.{◌≡◌, ℕ, List, map, length, sym, ap, ◌∙◌}
use Rattle.std.proofs.lemmas.List.{length-map}
use Rattle.plm_syntax.specs.View.{variable_of, dimension_of, type_of, attributes_of}
use Rattle.plm_decl.specs.declared.sites.Site.{Site}
use Rattle.plm_decl.specs.declared.attributes.Traits.{Traits}
use Rattle.plm_decl.specs.declared.shape.Shape.{Shape}
use Rattle.plm_decl.specs.Scope.{Frame}
use Rattle.plm_decl.specs.Inner.Scope.{frames_of}
use Rattle.plm_decl.specs.Resolver.{Known}
use Rattle.plm_decl.specs.Inner.Resolver.{known_of}
use Rattle.plm_decl.specs.Shape.{shape_for}
use Rattle.plm_decl.specs.Attributes.{element_values, traits_for}
use Rattle.plm_decl.specs.Sites.{first_site}
use Rattle.plm_decl.specs.Inner.Elements.{with_variables}
use Rattle.plm_decl.specs.Fill.{filled_element}
use Rattle.plm_decl.proofs.resolver.Resolver.names.Goals as goal

-- the steps of an element, one after another
in_order : {Position Shape Names Known : Type 0} (shape_from : Known → Shape × Known) (count : Known → ℕ)
    → (declare : Shape → Position → Known → Names × Known) (fill : Shape → ℕ → Names → Known → Names × Known)
    → (begun at : Position × Known) (shaped : Shape × Known) (number : ℕ) (declared : Names × Known)
    → begun ≡ at → shaped ≡ shape_from begun.1 → number ≡ count shaped.1 → declared ≡ declare shaped.0 begun.0 shaped.1
    → fill shaped.0 number declared.0 declared.1
    ≡ (let h = shape_from at.1 in let d = declare h.0 at.0 h.1 in fill h.0 (count h.1) d.0 d.1)
in_order shape_from count declare fill begun at shaped number declared e0 e1 e2 e3 =
    let h = e1 ∙ (λ j. shape_from (e0 j).1) in
    let d = e3 ∙ (λ j. declare (h j).0 (e0 j).0 (h j).1) in
    let n = e2 ∙ (λ j. count (h j).1) in
    (λ j. fill (h j).0 (n j) (d j).0 (d j).1)

pub returns : goal.returns
returns c =
    let k = known_of c.args.self.now in
    let frames = frames_of c.args.scope.now in
    let vs = map variable_of c.args.names.now in
    let d = dimension_of c.args.dimension.now in
    let t = type_of c.args.form.now in
    let a = attributes_of c.args.attributes.now in
    let place = c.args.place in
    let q = known_of c.shape.new.self in
    let site = c.in_ok-site.site in
    let shape = c.in_ok-shape.shape in
    let count = sym (length-map c.args.names.now variable_of) in
    let declared : List Frame × Known = (frames_of c.declare_names.new.scope, known_of c.declare_names.new.self) in
    (λ j. (declared.0, c.in_ok-fill_element.ensures j))
    ∙ in_order (λ (x : Known). shape_for place (length vs) d t (element_values a) x)
    (λ (x : Known). length x.variables)
    (λ (h : Shape) (s : Site) (x : Known). with_variables vs (traits_for h a) s frames x)
    (λ (h : Shape) (n : ℕ) (l : List Frame) (x : Known). (l, filled_element (record { names = vs; shape = h; number = n }) place a l x))
    (site, known_of c.site.new.self) (first_site frames a k) (shape, q) c.len-number.result declared
    c.in_ok-site.ensures
    (c.in_ok-shape.ensures ∙ (λ j. shape_for place (count j) d t (c.values.ensures j) (known_of c.site.new.self)))
    (c.len-number.ensures ∙ c.shape.new.self.variables.ok.0)
    (c.in_ok-declare_names.ensures ∙ ap (λ (x : Traits). with_variables vs x site frames q) c.traits_with.ensures)
