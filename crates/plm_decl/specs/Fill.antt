-- Initial values fill the scalars of an element's names in order.
use Rattle.std.specs.Prelude.{ℕ, ◌+◌, ◌-◌, ◌*◌, ◌%◌, List, [], ◌∷◌, ◌++◌, length, slice_get, slice_set, true, false, not, cond, nat_lt, Option, Some, None}
use Rattle.std.specs.Option.{option_map_or}
use Rattle.word86.specs.declared.number.Number.TheVariants.{E305}
use Rattle.plm_token.specs.Strings.{string_characters}
use Rattle.plm_syntax.specs.declared.tree.Position.{Position}
use Rattle.plm_syntax.specs.declared.tree.LocationForm.{LocationForm}
use Rattle.plm_syntax.specs.Tree.{VariableT, ValueT, NumeralV, NegativeV, TextV, LocationV, LocationT, ElementT, LiteralElement, VariableElement, AttributesT, DimensionT, TypeT}
use Rattle.plm_syntax.specs.Tree as tree
use Rattle.plm_decl.specs.declared.layout.ScalarType.{ScalarType}
use Rattle.plm_decl.specs.declared.names.Datum.{Datum}
use Rattle.plm_decl.specs.declared.names.Datum.TheVariants as datum
use Rattle.plm_decl.specs.declared.names.Region.{Region}
use Rattle.plm_decl.specs.declared.names.Region.TheVariants as region
use Rattle.plm_decl.specs.declared.names.Variable.{Variable}
use Rattle.plm_decl.specs.declared.resolved.Binding.TheVariants as binding
use Rattle.plm_decl.specs.declared.fill.Cursor.{Cursor}
use Rattle.plm_decl.specs.declared.shape.Shape.{Shape}
use Rattle.plm_decl.specs.Layout.{counted, elements}
use Rattle.plm_decl.specs.Scope.{Frame}
use Rattle.plm_decl.specs.Resolver.{Known, note, note_unless}
use Rattle.plm_decl.specs.Names.{ObjectR}
use Rattle.plm_decl.specs.Resolved.{LocationR', LocationOf, ConstantsOf, ReferenceR', Use}
use Rattle.plm_decl.specs.Datum.{number_datum, text_datum, character_datum, is_byte, takes}
use Rattle.plm_decl.specs.Expressions.{location}
use Rattle.plm_decl.specs.Shape.{scalars_of, scalar_at, shape_for}
use Rattle.plm_decl.specs.Sites.{distance, first_site}
use Rattle.plm_decl.specs.Elements.{place_of_variable, declared_variables, declared_list}
use Rattle.plm_decl.specs.Attributes.{element_values, has_values, is_placed, traits_for}

-- ---- locations

abbrev pub address_at : ℕ → Option ℕ → Option Datum
address_at n None = None
address_at n (Some d) = Some (datum.Variable n (d % 65536))

-- the address of a variable's byte; a based one has none
abbrev pub address_datum : ℕ → Region → Option ℕ → Option Datum
address_datum n (region.Based v) d = None
address_datum n (region.Ram o x) d = address_at n d
address_datum n (region.Screen page x) d = address_at n d
address_datum n region.Nowhere d = address_at n d

abbrev pub variable_datum : ℕ → Option Variable → Option ℕ → Option Datum
variable_datum n None d = None
variable_datum n (Some v) d = address_datum n v.region d

-- what is no variable is no fault here
abbrev pub reference_datum : Known → ReferenceR' → Option Datum
reference_datum k (Use p (binding.Variable n) es s) = variable_datum n (slice_get k.variables n) (distance k (Use p (binding.Variable n) es s))
reference_datum k (Use p (binding.Procedure q) es s) = Some (datum.Word 0)
reference_datum k (Use p (binding.Builtin b) es s) = Some (datum.Word 0)
reference_datum k (Use p binding.Nothing es s) = Some (datum.Word 0)

abbrev pub location_datum : Known → LocationR' → Option Datum
location_datum k (LocationOf p f x) = reference_datum k x
location_datum k (ConstantsOf p f object) = Some (datum.Constants object)

abbrev pub form_of_location : LocationT → LocationForm
form_of_location (tree.LocationOf p f x) = f
form_of_location (tree.ConstantsOf p f vs) = f

abbrev pub with_location : LocationR' → Known → Known
with_location l k = record k { locations = k.locations ++ record { «module» = k.module; location = l } ∷ [] }

abbrev pub location_in : List Frame → ScalarType → LocationT → Known → Option Datum × Known
location_in frames scalar l k =
    let r = location frames l k in
    (cond (takes scalar (form_of_location l)) (location_datum r.1 r.0) None, with_location r.0 r.1)

-- ---- one value in one scalar

abbrev pub datum_for : List Frame → ScalarType → ValueT → Known → Option Datum × Known
datum_for frames scalar (NumeralV n) k = (number_datum scalar n.value false, k)
datum_for frames scalar (NegativeV n) k = (number_datum scalar n.value true, k)
datum_for frames scalar (TextV s) k = (text_datum scalar (string_characters s.text), k)
datum_for frames scalar (LocationV l) k = location_in frames scalar l k

-- what values fill: names, their shape, and the number of the first one's variable
pub record FillingR : Type 0 where
  pub names : List VariableT
  pub shape : Shape
  pub number : ℕ

abbrev pub with_datum : Datum → ObjectR → ObjectR
with_datum d o = record o { initial = o.initial ++ d ∷ [] }

abbrev pub given_at : ℕ → Datum → Option ObjectR → Known → Known
given_at object d None k = k
given_at object d (Some o) k = record k { objects = slice_set k.objects object (with_datum d o) }

abbrev pub given_in : Region → Datum → Known → Known
given_in (region.Ram object offset) d k = given_at object d (slice_get k.objects object) k
given_in (region.Screen page offset) d k = k
given_in (region.Based v) d k = k
given_in region.Nowhere d k = k

-- a variable's object gets one more initial value
abbrev pub given : ℕ → Datum → Known → Known
given n d k = option_map_or (λ v. given_in v.region d k) (slice_get k.variables n) k

abbrev pub put_datum : FillingR → ℕ → VariableT → Option Datum → Known → Known
put_datum f name v (Some d) k = given (counted (f.number + name)) d k
put_datum f name v None k = note E305 (place_of_variable v) k

-- how many scalars a name has
abbrev pub scalars_in_name : Known → Shape → ℕ
scalars_in_name k s = counted (scalars_of k s.form * elements s.dimension)

abbrev pub cursor_after : ℕ → Cursor → Cursor
cursor_after scalars c = cond (nat_lt (counted (c.scalar + 1)) scalars) (record { name = c.name; scalar = counted (c.scalar + 1) }) (record { name = c.name + 1; scalar = 0 })

abbrev pub too_many : Option VariableT → Known → Known
too_many None k = k
too_many (Some v) k = note E305 (place_of_variable v) k

-- the name at the cursor, if it has a scalar there
abbrev pub name_at : FillingR → Cursor → Known → Option VariableT
name_at f c k = cond (nat_lt c.scalar (scalars_in_name k f.shape)) (slice_get f.names c.name) None

-- a value at the cursor; one too many does not fit the last name
abbrev pub put_at : FillingR → Cursor → Option VariableT → Option Datum → Known → Cursor × Known
put_at f c None d k = (c, too_many (slice_get f.names (length f.names - 1)) k)
put_at f c (Some v) d k = let q = put_datum f c.name v d k in (cursor_after (scalars_in_name q f.shape) c, q)

abbrev pub put_value : FillingR → Cursor → Option Datum → Known → Cursor × Known
put_value f c d k = put_at f c (name_at f c k) d k

abbrev pub past_at : FillingR → Option VariableT → Known → Known
past_at f None k = too_many (slice_get f.names (length f.names - 1)) k
past_at f (Some v) k = k

-- a value that stands after the last element is one too many
abbrev pub unless_past : FillingR → Cursor → Known → Known
unless_past f c k = past_at f (name_at f c k) k

-- a string fills a BYTE with each of its characters
abbrev pub put_characters : FillingR → Cursor → List ℕ → Known → Cursor × Known
put_characters f c [] k = (c, k)
put_characters f c (x ∷ xs) k =
    let r = put_value f c (character_datum (scalar_at k f.shape.form c.scalar) x) k in
    put_characters f r.0 xs r.1

abbrev pub put_single : List Frame → FillingR → Cursor → ValueT → Known → Cursor × Known
put_single frames f c v k = let d = datum_for frames (scalar_at k f.shape.form c.scalar) v k in put_value f c d.0 d.1

abbrev pub filled_with : List Frame → FillingR → Cursor → ValueT → Known → Cursor × Known
filled_with frames f c (NumeralV n) k = put_single frames f c (NumeralV n) k
filled_with frames f c (NegativeV n) k = put_single frames f c (NegativeV n) k
filled_with frames f c (TextV s) k =
    cond (is_byte (scalar_at k f.shape.form c.scalar)) (put_characters f c (string_characters s.text) (unless_past f c k)) (put_single frames f c (TextV s) k)
filled_with frames f c (LocationV l) k = put_single frames f c (LocationV l) k

abbrev pub filled_from : List Frame → FillingR → Cursor → List ValueT → Known → Cursor × Known
filled_from frames f c [] k = (c, k)
filled_from frames f c (v ∷ vs) k = let r = filled_with frames f c v k in filled_from frames f r.0 vs r.1

abbrev pub filled : List Frame → FillingR → List ValueT → Known → Known
filled frames f vs k = (filled_from frames f (record { name = 0; scalar = 0 }) vs k).1

-- ---- an element

-- values beside AT fill nothing
abbrev pub filled_element : FillingR → Position → AttributesT → List Frame → Known → Known
filled_element f place a frames k = cond (is_placed a) (note_unless (not (has_values a)) E305 place k) (filled frames f (element_values a) k)

-- names of which the first stands at this place: AT sees the names before the element, values see its own
abbrev pub declared_at : Position → List VariableT → DimensionT → TypeT → AttributesT → List Frame → Known → List Frame × Known
declared_at place vs d t a frames k =
    let s = first_site frames a k in
    let h = shape_for place (length vs) d t (element_values a) s.1 in
    let r = declared_variables vs (traits_for h.0 a) s.0 frames h.1 in
    (r.1, filled_element (record { names = vs; shape = h.0; number = length h.1.variables }) place a r.1 r.2)

abbrev pub declared_names : List VariableT → DimensionT → TypeT → AttributesT → List Frame → Known → List Frame × Known
declared_names [] d t a frames k = (frames, k)
declared_names (v ∷ vs) d t a frames k = declared_at (place_of_variable v) (v ∷ vs) d t a frames k

-- a literal's name is none of the program's
abbrev pub element : ElementT → List Frame → Known → List Frame × Known
element (LiteralElement n s) frames k = (frames, k)
element (VariableElement d n t a) frames k = declared_names (declared_list d) n t a frames k
