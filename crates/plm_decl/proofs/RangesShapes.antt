-- Shapes of declarations are within the final counts.
use Rattle.std.proofs.Common.{◌≡◌, ℕ, List, [], ◌∷◌, true, ◌&&◌, not, Option, Some, None, nat_eq, refl}
use Rattle.word86.specs.declared.number.Number.TheVariants.{E302, E305}
use Rattle.plm_token.specs.Names.{normal}
use Rattle.plm_syntax.specs.declared.tree.Position.{Position}
use Rattle.plm_syntax.specs.Terminal.{NameT, NumeralT}
use Rattle.plm_syntax.specs.Tree.{MemberT, TypeT, ScalarType, StructureType, DimensionT, no_dimension, dimension, implicit_dimension, ValueT}
use Rattle.plm_decl.specs.declared.layout.Form.{Form}
use Rattle.plm_decl.specs.declared.layout.ScalarType as layout
use Rattle.plm_decl.specs.Layout.{StructureR, has_field, no_fields, is_dimension, scalar_of}
use Rattle.plm_decl.specs.Resolver.{Known}
use Rattle.plm_decl.specs.Lists.{member_list}
use Rattle.plm_decl.specs.Shape.{number_of_elements, with_member_name, with_member_names, member_names, member_count, member_scalar, with_members, structure_for, with_structure, form_for, elements_filled, dimension_for, shape_for}
use Rattle.plm_decl.specs.Ranges.{Counts, form_within}
use Rattle.plm_decl.proofs.Kept.{Ends, Kept, kept, kept_then, note_unless_kept, pushed_below, pushed_most}

number_kept : (c : Counts) (p : Position) (n : Option NumeralT) (k : Known) → Kept c k (number_of_elements p n k).1
number_kept c p None k = kept c k
number_kept c p (Some n) k = note_unless_kept c (is_dimension n.value) E305 p k

name_kept : (c : Counts) (n : NameT) (t : layout.ScalarType) (d : Option ℕ) (s : StructureR) (k : Known) → Kept c k (with_member_name n t d s k).1
name_kept c n t d s k = note_unless_kept c (not (has_field (normal n.text) s.fields)) E302 n.place k

names_kept : (c : Counts) (ns : List NameT) (t : layout.ScalarType) (d : Option ℕ) (s : StructureR) (k : Known) → Kept c k (with_member_names ns t d s k).1
names_kept c [] t d s k = kept c k
names_kept c (n ∷ ns) t d s k = let r = with_member_name n t d s k in kept_then (name_kept c n t d s k) (names_kept c ns t d r.0 r.1)

members_kept : (c : Counts) (p : Position) (m : MemberT) (s : StructureR) (k : Known) → Kept c k (with_members p m s k).1
members_kept c p m s k =
    let d = number_of_elements p (member_count m) k in
    kept_then (number_kept c p (member_count m) k) (names_kept c (member_names m) (scalar_of (member_scalar m)) d.0 s d.1)

structure_kept : (c : Counts) (p : Position) (ms : List MemberT) (s : StructureR) (k : Known) → Kept c k (structure_for p ms s k).1
structure_kept c p [] s k = kept c k
structure_kept c p (m ∷ ms) s k = let r = with_members p m s k in kept_then (members_kept c p m s k) (structure_kept c p ms r.0 r.1)

with_structure_kept : (c : Counts) (s : StructureR) (k : Known) → Kept c k (with_structure (s, k)).1
with_structure_kept c s k = record { ends = λ e. (e.0, pushed_most k.structures s c.structures e.1, e.2, e.3, e.4); within = λ e w. w }

form_kept : (c : Counts) (p : Position) (t : TypeT) (k : Known) → Kept c k (form_for p t k).1
form_kept c p (ScalarType s) k = kept c k
form_kept c p (StructureType ms) k =
    let r = structure_for p (member_list ms) no_fields k in
    kept_then (structure_kept c p (member_list ms) no_fields k) (with_structure_kept c r.0 r.1)

form_is_within : (c : Counts) (p : Position) (t : TypeT) (k : Known) → Ends c (form_for p t k).1 → form_within c (form_for p t k).0 ≡ true
form_is_within c p (ScalarType s) k e = refl
form_is_within c p (StructureType ms) k e = pushed_below _ _ c.structures e.1

dimension_kept : (c : Counts) (p : Position) (count : ℕ) (d : DimensionT) (f : Form) (vs : List ValueT) (k : Known) → Kept c k (dimension_for p count d f vs k).1
dimension_kept c p count no_dimension f vs k = kept c k
dimension_kept c p count (dimension n) f vs k = number_kept c p (Some n) k
dimension_kept c p count implicit_dimension f vs k = note_unless_kept c (nat_eq count 1 && is_dimension (elements_filled k f vs)) E305 p k

pub shape_kept : (c : Counts) (p : Position) (count : ℕ) (d : DimensionT) (t : TypeT) (vs : List ValueT) (k : Known) → Kept c k (shape_for p count d t vs k).1
shape_kept c p count d t vs k = let f = form_for p t k in kept_then (form_kept c p t k) (dimension_kept c p count d f.0 vs f.1)

pub shape_is_within : (c : Counts) (p : Position) (count : ℕ) (d : DimensionT) (t : TypeT) (vs : List ValueT) (k : Known)
    → Ends c (shape_for p count d t vs k).1 → form_within c (shape_for p count d t vs k).0.form ≡ true
shape_is_within c p count d t vs k e = let f = form_for p t k in form_is_within c p t k ((dimension_kept c p count d f.0 vs f.1).ends e)
