-- What a reference to a variable designates.
use Rattle.std.specs.Prelude.{ℕ, ◌+◌, ◌*◌, min, Bool, true, false, ◌&&◌, ◌||◌, nat_eq, nat_le, cond, List, Option, Some, None, slice_get}
use Rattle.word86.specs.Access.{Where, In, Screen}
use Rattle.plm_decl.specs.declared.layout.ScalarType.{ScalarType}
use Rattle.plm_decl.specs.declared.layout.Form.{Form}
use Rattle.plm_decl.specs.declared.layout.Form.TheVariants as form
use Rattle.plm_decl.specs.declared.names.Region.{Region}
use Rattle.plm_decl.specs.declared.names.Region.TheVariants as region
use Rattle.plm_decl.specs.declared.names.Variable.{Variable}
use Rattle.plm_decl.specs.Layout.{counted, elements, size_of}
use Rattle.plm_decl.specs.Resolved.{SelectorR, no_member, member, member_at}
use Rattle.plm_type.specs.Rest.{Anchor, InObject, OnScreen, Behind, There, Expression, Plain, Reference, Refer, Subscripts, NoSubscripts, Subscript, Target, ToPlain, ToVariable, Scalar}
use Rattle.plm_type.specs.Rest as rest
use Rattle.plm_type.specs.Types.{width_of}

-- what has a dimension wants one subscript, which may be missing in a location and in LENGTH, LAST and SIZE
abbrev pub subscripts_fit : (part : Bool) → Option ℕ → ℕ → Bool
subscripts_fit part None n = nat_eq n 0
subscripts_fit part (Some d) n = nat_eq n 1 || (part && nat_eq n 0)

-- a structure wants one of its members, which may be missing there too
abbrev pub selector_fits : (part : Bool) → Form → SelectorR → Bool
selector_fits part (form.Scalar s) no_member = true
selector_fits part (form.Scalar s) (member p m) = false
selector_fits part (form.Scalar s) (member_at p m e) = false
selector_fits part (form.Structure n) no_member = part
selector_fits part (form.Structure n) (member p (Some m)) = subscripts_fit part m.dimension 0
selector_fits part (form.Structure n) (member p None) = false
selector_fits part (form.Structure n) (member_at p (Some m) e) = subscripts_fit part m.dimension 1
selector_fits part (form.Structure n) (member_at p None e) = false

abbrev pub shape_fits : (part : Bool) → Variable → ℕ → SelectorR → Bool
shape_fits part v n s = subscripts_fit part v.dimension n && selector_fits part v.form s

-- the scalar's type; a structure has none
abbrev pub form_type : Form → Option ScalarType
form_type (form.Scalar s) = Some s
form_type (form.Structure n) = None

abbrev pub designated : Variable → SelectorR → Option ScalarType
designated v no_member = form_type v.form
designated v (member p (Some m)) = Some m.scalar
designated v (member p None) = None
designated v (member_at p (Some m) e) = Some m.scalar
designated v (member_at p None e) = None

-- ---- sizes

-- the bytes that its declaration takes
abbrev pub span : Variable → ℕ
span v = counted (v.stride * elements v.dimension)

-- how many elements a reference stands for, and how many bytes each has
abbrev pub element_count : Variable → ℕ → SelectorR → ℕ
element_count v n no_member = cond (nat_eq n 0) (elements v.dimension) 1
element_count v n (member p (Some m)) = elements m.dimension
element_count v n (member p None) = 1
element_count v n (member_at p m e) = 1

abbrev pub element_size : Variable → SelectorR → ℕ
element_size v no_member = v.stride
element_size v (member p (Some m)) = size_of m.scalar
element_size v (member p None) = 0
element_size v (member_at p (Some m) e) = size_of m.scalar
element_size v (member_at p None e) = 0

-- ---- places

abbrev pub member_offset : SelectorR → ℕ
member_offset no_member = 0
member_offset (member p (Some m)) = m.offset
member_offset (member p None) = 0
member_offset (member_at p (Some m) e) = m.offset
member_offset (member_at p None e) = 0

-- how many bytes an element of a member has
abbrev pub member_stride : SelectorR → ℕ
member_stride no_member = 0
member_stride (member p m) = 0
member_stride (member_at p (Some m) e) = size_of m.scalar
member_stride (member_at p None e) = 0

-- the index of a byte: an object and a page of the screen have fewer bytes than that, so no accepted program has a greater one
abbrev pub capped : ℕ → ℕ
capped i = min i 0xFFFF

-- where a scalar lies that is not based
abbrev pub where_at : Region → Where
where_at (region.Ram k i) = In k (capped i)
where_at (region.Screen page i) = Screen page (capped i)
where_at (region.Based b) = In 0 0
where_at region.Nowhere = In 0 0

-- how many bytes a scalar has; a structure is none
abbrev pub scalar_size : Option ScalarType → ℕ
scalar_size (Some t) = size_of t
scalar_size None = 0

-- in RAM or on a page of the screen
abbrev pub lies_somewhere : Region → Bool
lies_somewhere (region.Ram k i) = true
lies_somewhere (region.Screen page i) = true
lies_somewhere (region.Based b) = false
lies_somewhere region.Nowhere = false

-- this many bytes lie there
abbrev pub has_room : ℕ → Variable → Bool
has_room n v = lies_somewhere v.region && nat_le n (span v)

-- the anchor of what lies nowhere: it has no bytes
abbrev pub nowhere : Anchor
nowhere = InObject 0 0 0

-- a base lies somewhere itself, with room for an address
abbrev pub behind : Option Variable → Anchor
behind (Some b) = cond (has_room 2 b) (Behind (where_at b.region)) nowhere
behind None = nowhere

abbrev pub anchor_at : List Variable → Region → ℕ → Anchor
anchor_at variables (region.Ram k i) size = InObject k i size
anchor_at variables (region.Screen page i) size = OnScreen page i size
anchor_at variables (region.Based b) size = behind (slice_get variables b)
anchor_at variables region.Nowhere size = nowhere

abbrev pub anchor_for : List Variable → Variable → Anchor
anchor_for variables v = anchor_at variables v.region (span v)

abbrev pub scalar_for : Variable → Scalar
scalar_for v = record { width = width_of (form_type v.form); place = where_at v.region }

abbrev pub is_on_screen : Region → Bool
is_on_screen (region.Ram k i) = false
is_on_screen (region.Screen page i) = true
is_on_screen (region.Based b) = false
is_on_screen region.Nowhere = false

abbrev pub is_based : Region → Bool
is_based (region.Ram k i) = false
is_based (region.Screen page i) = false
is_based (region.Based b) = true
is_based region.Nowhere = false

-- a place that no subscript and no base moves, where n bytes are among those declared
abbrev pub fixed_place : ℕ → Reference → Option Where
fixed_place n (Refer module_index line (InObject k start size) offset NoSubscripts) = cond (nat_le (offset + n) size) (Some (In k (capped (start + offset)))) None
fixed_place n (Refer module_index line (OnScreen page start size) offset NoSubscripts) = cond (nat_le (offset + n) size) (Some (Screen page (capped (start + offset)))) None
fixed_place n (Refer module_index line (InObject k start size) offset (Subscript stride e more)) = None
fixed_place n (Refer module_index line (OnScreen page start size) offset (Subscript stride e more)) = None
fixed_place n (Refer module_index line (Behind base) offset s) = None
fixed_place n (Refer module_index line (There address) offset s) = None

abbrev pub read_of : ScalarType → Reference → Expression
read_of t r = elim (fixed_place (size_of t) r) [ Some w ↦ Plain (width_of (Some t)) w | None ↦ rest.Variable (width_of (Some t)) r ]

abbrev pub store_to : ScalarType → Reference → Target
store_to t r = elim (fixed_place (size_of t) r) [ Some w ↦ ToPlain (width_of (Some t)) w | None ↦ ToVariable (width_of (Some t)) r ]
