-- Of a program without faults of types: what its variables stand for lies in objects, or in pages of the screen.
use Rattle.std.proofs.lemmas.Bool.{and_parts, leb-true}
use Rattle.std.proofs.Common.{◌≡◌, ℕ, ◌+◌, ◌*◌, ◌-◌, ◌^◌, ◌≤◌, Bool, true, false, not, cond, List, slice_get, Option, Some, None, is_some, refl, sym, arith, true≢false}
use Rattle.std.specs.Prelude.{◌&&◌, nat_le, slice_index}
use Rattle.std.proofs.Math.Nat.{min-le_left}
use Rattle.word86.specs.Page.{page_size}
use Rattle.word86.specs.Place.{bytes}
use Rattle.plm_decl.specs.declared.layout.Form.{Form}
use Rattle.plm_decl.specs.declared.layout.Form.TheVariants as form
use Rattle.plm_decl.specs.declared.layout.ScalarType.{ScalarType}
use Rattle.plm_decl.specs.declared.layout.ScalarType.TheVariants.{Byte, Word, Pointer, Integer}
use Rattle.plm_decl.specs.declared.names.Region.{Region}
use Rattle.plm_decl.specs.declared.names.Region.TheVariants as region
use Rattle.plm_decl.specs.declared.names.Variable.{Variable}
use Rattle.plm_decl.specs.Layout.{elements, size_of}
use Rattle.plm_type.specs.Rest.{Behind}
use Rattle.plm_type.specs.Types.{width_of}
use Rattle.plm_type.specs.Shapes.{form_type, span, where_at, is_based, capped, scalar_size, lies_somewhere, has_room, nowhere, behind, anchor_at, anchor_for, scalar_for}
use Rattle.plm_type.specs.Statements.{is_plain_scalar, is_placed_scalar}
use Rattle.lower.specs.Well.{Lies, ScalarLies, AnchorLies}

-- ---- variables

pub width_bytes : (t : ScalarType) → bytes (width_of (Some t)) ≡ size_of t
width_bytes Byte = refl
width_bytes Word = refl
width_bytes Pointer = refl
width_bytes Integer = refl

pub capped_least : (i : ℕ) → capped i ≤ i
capped_least i = min-le_left i 0xFFFF

-- all bytes of what its declaration takes lie there
abbrev pub LiesAt : List ℕ → ℕ → Region → Type 0
LiesAt sizes n (region.Ram k i) = i + n ≤ slice_index sizes k
LiesAt sizes n (region.Screen page i) = i + n ≤ page_size
LiesAt sizes n (region.Based b) = Unit {0}
LiesAt sizes n region.Nowhere = Unit {0}

abbrev pub IsLying : List ℕ → Variable → Type 0
IsLying sizes v = LiesAt sizes (v.stride * elements v.dimension) v.region

abbrev pub AreLying : List ℕ → List Variable → Type 0
AreLying sizes vs = (k : ℕ) (v : Variable) → slice_get vs k ≡ Some v → IsLying sizes v

span_least : (v : Variable) → span v ≤ v.stride * elements v.dimension
span_least v = min-le_left (v.stride * elements v.dimension) (2 ^ 64 - 1)

module _ (sizes : List ℕ) where
  placed_at : (v : Variable) (r : Region) (t : ScalarType) → LiesAt sizes (v.stride * elements v.dimension) r → lies_somewhere r ≡ true → size_of t ≤ span v → Lies sizes (width_of (Some t)) (where_at r)
  placed_at v (region.Ram k i) t lies e room = omega (arith, lies, room, width_bytes t, capped_least i, span_least v)
  placed_at v (region.Screen page i) t lies e room = omega (arith, lies, room, width_bytes t, capped_least i, span_least v)
  placed_at v (region.Based b) t lies e room = absurd (true≢false (sym e))
  placed_at v region.Nowhere t lies e room = absurd (true≢false (sym e))

  -- where the region has room for the scalar's bytes, the scalar lies in it
  pub with_room : (v : Variable) (t : ScalarType) → IsLying sizes v → has_room (size_of t) v ≡ true → Lies sizes (width_of (Some t)) (where_at v.region)
  with_room v t lies h =
      let both = and_parts (lies_somewhere v.region) (nat_le (size_of t) (span v)) h in
      placed_at v v.region t lies both.0 (leb-true (size_of t) (span v) both.1)

  scalar_of_form : (v : Variable) (f : Form) → IsLying sizes v → is_some (form_type f) ≡ true → has_room (scalar_size (form_type f)) v ≡ true → Lies sizes (width_of (form_type f)) (where_at v.region)
  scalar_of_form v (form.Scalar t) lies e h = with_room v t lies h
  scalar_of_form v (form.Structure n) lies e h = absurd (true≢false (sym e))

  -- a placed scalar lies
  pub placed_lies : (v : Variable) → IsLying sizes v → is_placed_scalar v ≡ true → ScalarLies sizes (scalar_for v)
  placed_lies v lies h =
      let both = and_parts (is_plain_scalar v) (has_room (scalar_size (form_type v.form)) v) h in
      let plain = and_parts (is_some (form_type v.form)) (not (is_some v.dimension) && not (is_based v.region)) both.0 in
      scalar_of_form v v.form lies plain.0 both.1

  -- ---- anchors

  behind_if : (b : Variable) (c : Bool) → has_room 2 b ≡ c → IsLying sizes b → AnchorLies sizes (cond c (Behind (where_at b.region)) nowhere)
  behind_if b true h lies = with_room b Word lies h
  behind_if b false h lies = omega arith

  behind_lies : (o : Option Variable) → ((v : Variable) → o ≡ Some v → IsLying sizes v) → AnchorLies sizes (behind o)
  behind_lies (Some b) lies = behind_if b (has_room 2 b) refl (lies b refl)
  behind_lies None lies = omega arith

  region_lies : (vs : List Variable) → AreLying sizes vs → (v : Variable) (r : Region) → LiesAt sizes (v.stride * elements v.dimension) r → AnchorLies sizes (anchor_at vs r (span v))
  region_lies vs all v (region.Ram k i) lies = omega (arith, lies, span_least v)
  region_lies vs all v (region.Screen page i) lies = omega (arith, lies, span_least v)
  region_lies vs all v (region.Based b) lies = behind_lies (slice_get vs b) (all b)
  region_lies vs all v region.Nowhere lies = omega arith

  pub anchor_lies : (vs : List Variable) → AreLying sizes vs → (v : Variable) → IsLying sizes v → AnchorLies sizes (anchor_for vs v)
  anchor_lies vs all v lies = region_lies vs all v v.region lies
