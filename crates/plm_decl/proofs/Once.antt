-- A parameter is listed once, and a member declared once.
use Rattle.std.proofs.Common.{◌≡◌, ℕ, List, [], ◌∷◌, ◌++◌, Bool, true, false, ◌||◌, not, Option, bytes_eq, refl, sym, ap, ◌∙◌}
use Rattle.std.proofs.Math.Bool.{or-false, or_assoc}
use Rattle.std.proofs.lemmas.Slice.Eq.{bytes_eq-Decides}
use Rattle.word86.specs.declared.number.Number.TheVariants.{E302}
use Rattle.plm_token.specs.Names.{normal}
use Rattle.plm_syntax.specs.declared.tree.Position.{Position}
use Rattle.plm_syntax.specs.Terminal.{NameT}
use Rattle.plm_syntax.specs.Tree.{MemberT}
use Rattle.plm_decl.specs.declared.layout.ScalarType.{ScalarType}
use Rattle.plm_decl.specs.declared.names.Item.TheVariants as item
use Rattle.plm_decl.specs.Layout.{FieldR, StructureR, no_fields, scalar_of, has_field}
use Rattle.plm_decl.specs.Scope.{Entries, Frame, found_here}
use Rattle.plm_decl.specs.Resolver.{Known, note_unless}
use Rattle.plm_decl.specs.Shape.{member_names, member_count, member_scalar, number_of_elements, with_member_name, with_member_names, with_members, structure_for}
use Rattle.plm_decl.specs.Procedures.{with_parameter, parameter_is, parameter_for, parameters_from}
use Rattle.plm_decl.specs.BlockNames.{has_name}
use Rattle.plm_decl.specs.Inner.Parameters.{listed_after}
use Rattle.plm_decl.specs.DeclaredAgain.{names_of_members}
use Rattle.plm_decl.proofs.BlockNames.{finds, entered, has_both}

-- ---- parameters

pub finds_listed : (name : List ℕ) (listed : Entries) (ns : List NameT) → finds name (listed_after listed ns) ≡ (finds name listed || has_name name ns)
finds_listed name listed [] = sym (or-false (finds name listed))
finds_listed name listed (n ∷ ns) =
    finds_listed name (with_parameter n listed) ns
    ∙ ap (λ (b : Bool). b || has_name name ns) (entered (finds (normal n.text) listed) name (normal n.text) (item.Variable 0) listed refl)
    ∙ or_assoc (finds name listed) (bytes_eq name (normal n.text)) (has_name name ns)

one_parameter_more : (frames : List Frame) (listed : Entries) (vs : List ℕ) (ns : List NameT) (n : NameT) (k : Known)
    → let r = parameters_from frames listed vs ns k in parameters_from frames listed vs (ns ++ n ∷ []) k ≡ parameter_for frames (listed_after listed ns) r.0 n r.1
one_parameter_more frames listed vs [] n k = refl
one_parameter_more frames listed vs (m ∷ ns) n k = let r = parameter_for frames listed vs m k in one_parameter_more frames (with_parameter m listed) r.0 ns n r.1

pub lists_once : (frames : List Frame) (vs : List ℕ) (ns : List NameT) (n : NameT) (k : Known)
    → let r = parameters_from frames [] vs ns k in
    parameters_from frames [] vs (ns ++ n ∷ []) k ≡ parameter_is (found_here (normal n.text) frames) n.place r.0 (note_unless (not (has_name (normal n.text) ns)) E302 n.place r.1)
lists_once frames vs ns n k =
    let r = parameters_from frames [] vs ns k in
    one_parameter_more frames [] vs ns n k
    ∙ ap (λ (b : Bool). parameter_is (found_here (normal n.text) frames) n.place r.0 (note_unless (not b) E302 n.place r.1)) (finds_listed (normal n.text) [] ns)

-- ---- members

same_test : (a b : Bool) → (a ≡ true → b ≡ true) → (b ≡ true → a ≡ true) → a ≡ b
same_test true b f g = sym (f refl)
same_test false true f g = g refl
same_test false false f g = refl

pub bytes_eq-sym : (a b : List ℕ) → bytes_eq a b ≡ bytes_eq b a
bytes_eq-sym a b =
    same_test (bytes_eq a b) (bytes_eq b a)
    (λ h. (bytes_eq-Decides b a).1 (sym ((bytes_eq-Decides a b).0 h)))
    (λ h. (bytes_eq-Decides a b).1 (sym ((bytes_eq-Decides b a).0 h)))

pub has_pushed : (name : List ℕ) (fs : List FieldR) (f : FieldR) → has_field name (fs ++ f ∷ []) ≡ (has_field name fs || bytes_eq name f.name)
has_pushed name [] f = or-false (bytes_eq f.name name) ∙ bytes_eq-sym f.name name
has_pushed name (g ∷ fs) f =
    ap (λ (b : Bool). bytes_eq g.name name || b) (has_pushed name fs f) ∙ sym (or_assoc (bytes_eq g.name name) (has_field name fs) (bytes_eq name f.name))

pub has_names : (name : List ℕ) (ns : List NameT) (scalar : ScalarType) (d : Option ℕ) (s : StructureR) (k : Known)
    → has_field name (with_member_names ns scalar d s k).0.fields ≡ (has_field name s.fields || has_name name ns)
has_names name [] scalar d s k = sym (or-false (has_field name s.fields))
has_names name (n ∷ ns) scalar d s k =
    let r = with_member_name n scalar d s k in
    has_names name ns scalar d r.0 r.1
    ∙ ap (λ (b : Bool). b || has_name name ns) (has_pushed name s.fields _)
    ∙ or_assoc (has_field name s.fields) (bytes_eq name (normal n.text)) (has_name name ns)

has_members : (name : List ℕ) (place : Position) (ms : List MemberT) (s : StructureR) (k : Known)
    → has_field name (structure_for place ms s k).0.fields ≡ (has_field name s.fields || has_name name (names_of_members ms))
has_members name place [] s k = sym (or-false (has_field name s.fields))
has_members name place (m ∷ ms) s k =
    let r = with_members place m s k in
    let d = number_of_elements place (member_count m) k in
    has_members name place ms r.0 r.1
    ∙ ap (λ (b : Bool). b || has_name name (names_of_members ms)) (has_names name (member_names m) (scalar_of (member_scalar m)) d.0 s d.1)
    ∙ or_assoc (has_field name s.fields) (has_name name (member_names m)) (has_name name (names_of_members ms))
    ∙ ap (λ (b : Bool). has_field name s.fields || b) (sym (has_both name (member_names m) (names_of_members ms)))

pub members_once : (place : Position) (ms : List MemberT) (ns : List NameT) (scalar : ScalarType) (d : Option ℕ) (k q known : Known) (n : NameT)
    → (with_member_name n scalar d (with_member_names ns scalar d (structure_for place ms no_fields k).0 q).0 known).1
    ≡ note_unless (not (has_name (normal n.text) (names_of_members ms ++ ns))) E302 n.place known
members_once place ms ns scalar d k q known n =
    let name = normal n.text in
    ap (λ (b : Bool). note_unless (not b) E302 n.place known)
    (has_names name ns scalar d (structure_for place ms no_fields k).0 q
    ∙ ap (λ (b : Bool). b || has_name name ns) (has_members name place ms no_fields k)
    ∙ sym (has_both name (names_of_members ms) ns))
