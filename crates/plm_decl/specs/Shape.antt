-- The types of declarations: structures, dimensions and sizes. Faults of dimensions stand at the first name of the element.
use Rattle.std.specs.Prelude.{ℕ, ◌+◌, ◌*◌, ◌/◌, ◌%◌, List, [], ◌∷◌, ◌++◌, length, slice_get, Bool, not, cond, ◌&&◌, nat_lt, nat_eq, Option, Some, None}
use Rattle.std.specs.Option.{option_map_or}
use Rattle.word86.specs.declared.number.Number.TheVariants.{E302, E305}
use Rattle.plm_token.specs.Names.{normal}
use Rattle.plm_token.specs.Strings.{string_characters}
use Rattle.plm_syntax.specs.declared.tree.Position.{Position}
use Rattle.plm_syntax.specs.declared.tree.Scalar.{Scalar}
use Rattle.plm_syntax.specs.Terminal.{NameT, NumeralT}
use Rattle.plm_syntax.specs.Tree.{MemberT, OneMember, MemberList, TypeT, ScalarType, StructureType, DimensionT, no_dimension, dimension, implicit_dimension, ValueT, NumeralV, NegativeV, TextV, LocationV}
use Rattle.plm_decl.specs.declared.layout.Form.{Form}
use Rattle.plm_decl.specs.declared.layout.Form.TheVariants as form
use Rattle.plm_decl.specs.declared.layout.ScalarType as layout
use Rattle.plm_decl.specs.declared.layout.ScalarType.TheVariants.{Byte}
use Rattle.plm_decl.specs.declared.shape.Shape.{Shape}
use Rattle.plm_decl.specs.Layout.{StructureR, counted, scalar_of, size_of, elements, is_dimension, no_fields, with_field, has_field, scalar_in}
use Rattle.plm_decl.specs.Resolver.{Known, note_unless}
use Rattle.plm_decl.specs.Lists.{name_list, member_list}
use Rattle.plm_decl.specs.Datum.{is_byte}

-- a dimension; a faulty one counts as 1
abbrev pub dimension_if : Bool → ℕ → Position → Known → Option ℕ × Known
dimension_if holds n place k = (Some (cond holds n 1), note_unless holds E305 place k)

-- a dimension that is a number
abbrev pub number_of_elements : Position → Option NumeralT → Known → Option ℕ × Known
number_of_elements place None k = (None, k)
number_of_elements place (Some n) k = dimension_if (is_dimension n.value) n.value place k

-- ---- structures

-- the members of one type are declared in order, each once
abbrev pub with_member_name : NameT → layout.ScalarType → Option ℕ → StructureR → Known → StructureR × Known
with_member_name n scalar d s k =
    (with_field (normal n.text) scalar d s, note_unless (not (has_field (normal n.text) s.fields)) E302 n.place k)

abbrev pub with_member_names : List NameT → layout.ScalarType → Option ℕ → StructureR → Known → StructureR × Known
with_member_names [] scalar d s k = (s, k)
with_member_names (n ∷ ns) scalar d s k =
    let r = with_member_name n scalar d s k in with_member_names ns scalar d r.0 r.1

abbrev pub member_names : MemberT → List NameT
member_names (OneMember n c s) = n ∷ []
member_names (MemberList ns c s) = name_list ns

abbrev pub member_count : MemberT → Option NumeralT
member_count (OneMember n c s) = c
member_count (MemberList ns c s) = c

abbrev pub member_scalar : MemberT → Scalar
member_scalar (OneMember n c s) = s
member_scalar (MemberList ns c s) = s

abbrev pub with_members : Position → MemberT → StructureR → Known → StructureR × Known
with_members place m s k =
    let d = number_of_elements place (member_count m) k in
    with_member_names (member_names m) (scalar_of (member_scalar m)) d.0 s d.1

abbrev pub structure_for : Position → List MemberT → StructureR → Known → StructureR × Known
structure_for place [] s k = (s, k)
structure_for place (m ∷ ms) s k = let r = with_members place m s k in structure_for place ms r.0 r.1

abbrev pub with_structure : StructureR × Known → Form × Known
with_structure r = (form.Structure (length r.1.structures), record r.1 { structures = r.1.structures ++ r.0 ∷ [] })

-- what an element is
abbrev pub form_for : Position → TypeT → Known → Form × Known
form_for place (ScalarType s) k = (form.Scalar (scalar_of s), k)
form_for place (StructureType ms) k = with_structure (structure_for place (member_list ms) no_fields k)

-- ---- sizes

-- how many bytes an element has
abbrev pub stride_of : Known → Form → ℕ
stride_of k (form.Scalar s) = size_of s
stride_of k (form.Structure n) = option_map_or (λ s. s.size) (slice_get k.structures n) 0

-- how many scalars an element has
abbrev pub scalars_of : Known → Form → ℕ
scalars_of k (form.Scalar s) = 1
scalars_of k (form.Structure n) = option_map_or (λ s. s.scalars) (slice_get k.structures n) 0

abbrev pub scalar_of_structure : StructureR → ℕ → layout.ScalarType
scalar_of_structure s position = cond (nat_lt 0 s.scalars) (scalar_in s.fields (position % s.scalars)) Byte

-- the scalar that stands this many scalars after the first of a variable
abbrev pub scalar_at : Known → Form → ℕ → layout.ScalarType
scalar_at k (form.Scalar s) position = s
scalar_at k (form.Structure n) position = option_map_or (λ s. scalar_of_structure s position) (slice_get k.structures n) Byte

-- how many bytes a variable has
abbrev pub size_of_shape : Shape → ℕ
size_of_shape s = counted (s.stride * elements s.dimension)

-- ---- dimensions

-- a string fills a BYTE with each of its characters, another value one scalar
abbrev pub scalars_filled : Known → Form → ℕ → ValueT → ℕ
scalars_filled k f position (NumeralV n) = 1
scalars_filled k f position (NegativeV n) = 1
scalars_filled k f position (TextV s) = cond (is_byte (scalar_at k f position)) (length (string_characters s.text)) 1
scalars_filled k f position (LocationV l) = 1

abbrev pub all_scalars_filled : Known → Form → ℕ → List ValueT → ℕ
all_scalars_filled k f before [] = before
all_scalars_filled k f before (v ∷ vs) = all_scalars_filled k f (counted (before + scalars_filled k f before v)) vs

-- how many elements of this many scalars have these, the last one perhaps in part
abbrev pub elements_for : ℕ → ℕ → ℕ
elements_for scalars filled = cond (nat_eq scalars 0) 0 (cond (nat_eq (filled % scalars) 0) (filled / scalars) (filled / scalars + 1))

abbrev pub elements_filled : Known → Form → List ValueT → ℕ
elements_filled k f vs = elements_for (scalars_of k f) (all_scalars_filled k f 0 vs)

-- (*) is for one name, with values, and takes its length from them
abbrev pub dimension_for : Position → ℕ → DimensionT → Form → List ValueT → Known → Option ℕ × Known
dimension_for place count no_dimension f vs k = (None, k)
dimension_for place count (dimension n) f vs k = number_of_elements place (Some n) k
dimension_for place count implicit_dimension f vs k =
    let n = elements_filled k f vs in dimension_if (nat_eq count 1 && is_dimension n) n place k

-- what this many names of an element have in common
abbrev pub shape_for : Position → ℕ → DimensionT → TypeT → List ValueT → Known → Shape × Known
shape_for place count d t vs k =
    let f = form_for place t k in let n = dimension_for place count d f.0 vs f.1 in
    (record { form = f.0; dimension = n.0; stride = stride_of n.1 f.0 }, n.1)
