use Rattle.std.proofs.Common.{◌≡◌, List, [], ◌∷◌, Some, map, sym, ap, ◌∙◌}
use Rattle.std.specs.Prelude.{slice_get}
use Rattle.std.proofs.lemmas.Result.{IfOk-equal}
use Rattle.plm_syntax.specs.declared.tree.Element.{Element}
use Rattle.plm_syntax.specs.declared.tree.Variable.{Variable}
use Rattle.plm_syntax.specs.Tree.{VariableT, DimensionT, TypeT, AttributesT}
use Rattle.plm_syntax.specs.View.{variable_of, dimension_of, type_of, attributes_of, element_of}
use Rattle.plm_decl.specs.Scope.{Frame}
use Rattle.plm_decl.specs.Inner.Scope.{frames_of}
use Rattle.plm_decl.specs.Resolver.{Known}
use Rattle.plm_decl.specs.Inner.Resolver.{known_of}
use Rattle.plm_decl.specs.Fill.{declared_at, declared_names, element}
use Rattle.plm_decl.proofs.resolver.Resolver.element.Goals as goal

declared_first : (vs : List Variable) (v : Variable) (d : DimensionT) (t : TypeT) (a : AttributesT) (frames : List Frame) (k : Known) → Some v ≡ slice_get vs 0
    → declared_at v.name.place (map variable_of vs) d t a frames k ≡ declared_names (map variable_of vs) d t a frames k
declared_first [] v d t a frames k e = cc
declared_first (w ∷ vs) v d t a frames k e =
    let same : v ≡ w = cc in
    ap (λ (x : Variable). declared_at x.name.place (map variable_of (w ∷ vs)) d t a frames k) same

pub returns-in-Some : goal.returns-in-Some
returns-in-Some c =
    let frames = frames_of c.args.scope.now in
    let k = known_of c.args.self.now in
    let d = dimension_of c.in-Variable.dimension in
    let t = type_of c.in-Variable.form in
    let a = attributes_of c.in-Variable.attributes in
    let all =
    declared_first c.declared_names-names.result.now c.in-Some.first.now d t a frames k c.in-Some.ensures.value
    ∙ ap (λ (vs : List VariableT). declared_names vs d t a frames k) c.declared_names-names.ensures
    ∙ ap (λ (e : Element). element (element_of e) frames k) (sym c.in-Variable.is) in
    IfOk-equal c.names.result _ _ _ c.names.ensures all
