-- How many bytes the scalars of a name fill, one after another: no more than the name has.
use Rattle.std.proofs.Common.{◌≡◌, ℕ, zero, suc, ◌+◌, ◌*◌, ◌-◌, ◌%◌, ◌<◌, ◌≤◌, List, [], ◌∷◌, ◌++◌, Bool, true, false, ◌&&◌, not, cond, Option, Some, None, nat_lt, nat_eq, arith, refl, sym, ap, subst, ◌∙◌}
use Rattle.std.specs.Prelude.{slice_get}
use Rattle.std.specs.Option.{option_map_or}
use Rattle.std.proofs.lemmas.Bool.Decides.{nat_tests}
use Rattle.std.proofs.lemmas.Nat.{mod-mul-add}
use Rattle.word86.specs.declared.number.Number.TheVariants.{E302, E305}
use Rattle.word86.specs.declared.number.Number.{Number}
use Rattle.plm_token.specs.Names.{normal}
use Rattle.plm_syntax.specs.declared.tree.Position.{Position}
use Rattle.plm_syntax.specs.Terminal.{NameT, NumeralT}
use Rattle.plm_syntax.specs.Tree.{MemberT, TypeT, ScalarType, StructureType, DimensionT, no_dimension, dimension, implicit_dimension, ValueT}
use Rattle.plm_decl.specs.declared.layout.Form.{Form}
use Rattle.plm_decl.specs.declared.layout.Form.TheVariants as form
use Rattle.plm_decl.specs.declared.layout.ScalarType as layout
use Rattle.plm_decl.specs.declared.layout.ScalarType.TheVariants.{Byte, Word, Pointer, Integer}
use Rattle.plm_decl.specs.declared.shape.Shape.{Shape}
use Rattle.plm_decl.specs.Layout.{FieldR, StructureR, counted, scalar_of, size_of, elements, is_dimension, no_fields, with_field, has_field, scalar_in}
use Rattle.plm_decl.specs.Resolver.{Known, note_unless}
use Rattle.plm_decl.specs.Lists.{member_list}
use Rattle.plm_decl.specs.Shape.{number_of_elements, with_member_name, with_member_names, member_names, member_count, member_scalar, with_members, structure_for, form_for, stride_of, scalars_of, scalar_of_structure, scalar_at, size_of_shape, elements_filled, dimension_for, shape_for}
use Rattle.plm_decl.specs.Fill.{scalars_in_name}
use Rattle.plm_decl.proofs.Objects.{last_got}
use Rattle.plm_decl.proofs.MemberScalars.{uncounted}

-- ---- the bytes of a row of scalars

abbrev pub bytes_before : (ℕ → layout.ScalarType) → ℕ → ℕ
bytes_before at zero = 0
bytes_before at (suc n) = bytes_before at n + size_of (at n)

same_bytes : (at other : ℕ → layout.ScalarType) (n : ℕ) → ((i : ℕ) → i < n → at i ≡ other i) → bytes_before at n ≡ bytes_before other n
same_bytes at other zero h = refl
same_bytes at other (suc n) h =
    let rest = same_bytes at other n (λ i p. h i (omega arith)) in
    let last = h n (omega arith) in
    (λ j. rest j + size_of (last j))

split_bytes : (at : ℕ → layout.ScalarType) (m n : ℕ) → bytes_before at (m + n) ≡ bytes_before at m + bytes_before (λ i. at (m + i)) n
split_bytes at m zero =
    let e : m + 0 ≡ m = omega arith in
    let f = ap (bytes_before at) e in omega (arith, f)
split_bytes at m (suc n) =
    let e : m + suc n ≡ suc (m + n) = omega arith in
    let f = ap (bytes_before at) e in
    let rest = split_bytes at m n in
    omega (arith, f, rest)

more_bytes : (at : ℕ → layout.ScalarType) (m n : ℕ) → m ≤ n → bytes_before at m ≤ bytes_before at n
more_bytes at m n h =
    let e : m + (n - m) ≡ n = omega arith in
    let f = ap (bytes_before at) e in
    let s = split_bytes at m (n - m) in
    omega (arith, f, s)

bytes_alike : (s : layout.ScalarType) (n : ℕ) → bytes_before (λ i. s) n ≡ n * size_of s
bytes_alike s zero = omega arith
bytes_alike s (suc n) = let rest = bytes_alike s n in let e : suc n * size_of s ≡ n * size_of s + size_of s = grind arith in omega (arith, rest, e)

-- ---- members

abbrev bytes_of_fields : List FieldR → ℕ
bytes_of_fields [] = 0
bytes_of_fields (f ∷ fs) = elements f.member.dimension * size_of f.member.scalar + bytes_of_fields fs

abbrev scalars_of_fields : List FieldR → ℕ
scalars_of_fields [] = 0
scalars_of_fields (f ∷ fs) = elements f.member.dimension + scalars_of_fields fs

scalar_first : (f : FieldR) (fs : List FieldR) (i : ℕ) → i < elements f.member.dimension → scalar_in (f ∷ fs) i ≡ f.member.scalar
scalar_first f fs i h = chosen (nat_lt i (elements f.member.dimension)) (grind (arith, nat_tests))
  where
    chosen : (b : Bool) → b ≡ true → cond b f.member.scalar (scalar_in fs (i - elements f.member.dimension)) ≡ f.member.scalar
    chosen true e = refl
    chosen false e = cc

scalar_rest : (f : FieldR) (fs : List FieldR) (i : ℕ) → scalar_in (f ∷ fs) (elements f.member.dimension + i) ≡ scalar_in fs i
scalar_rest f fs i =
    let n = elements f.member.dimension in
    chosen (nat_lt (n + i) n) (grind (arith, nat_tests)) ∙ ap (scalar_in fs) (omega arith)
  where
    chosen : (b : Bool) → b ≡ false → cond b f.member.scalar (scalar_in fs (elements f.member.dimension + i - elements f.member.dimension)) ≡ scalar_in fs (elements f.member.dimension + i - elements f.member.dimension)
    chosen true e = cc
    chosen false e = refl

bytes_of_row : (fs : List FieldR) → bytes_before (scalar_in fs) (scalars_of_fields fs) ≡ bytes_of_fields fs
bytes_of_row [] = refl
bytes_of_row (f ∷ fs) =
    let n = elements f.member.dimension in
    split_bytes (scalar_in (f ∷ fs)) n (scalars_of_fields fs)
    ∙ (λ j. (same_bytes (scalar_in (f ∷ fs)) (λ i. f.member.scalar) n (scalar_first f fs) ∙ bytes_alike f.member.scalar n) j
    + (same_bytes (λ i. scalar_in (f ∷ fs) (n + i)) (scalar_in fs) (scalars_of_fields fs) (λ i p. scalar_rest f fs i) ∙ bytes_of_row fs) j)

-- ---- structures

pushed_bytes : (fs : List FieldR) (f : FieldR) → bytes_of_fields (fs ++ f ∷ []) ≡ bytes_of_fields fs + elements f.member.dimension * size_of f.member.scalar
pushed_bytes [] f = omega arith
pushed_bytes (g ∷ fs) f = let rest = pushed_bytes fs f in omega (arith, rest)

pushed_scalars : (fs : List FieldR) (f : FieldR) → scalars_of_fields (fs ++ f ∷ []) ≡ scalars_of_fields fs + elements f.member.dimension
pushed_scalars [] f = omega arith
pushed_scalars (g ∷ fs) f = let rest = pushed_scalars fs f in omega (arith, rest)

-- a structure's counts are those of its fields
record Adds (s : StructureR) : Type 0 where
  bytes : s.size ≡ counted (bytes_of_fields s.fields)
  scalars : s.scalars ≡ counted (scalars_of_fields s.fields)

counted_twice : (total before more : ℕ) → before ≡ counted total → counted (before + counted more) ≡ counted (total + more)
counted_twice total before more h = omega (arith, h)

counted_once : (total before more : ℕ) → before ≡ counted total → counted (before + more) ≡ counted (total + more)
counted_once total before more h = omega (arith, h)

field_adds : (name : List ℕ) (scalar : layout.ScalarType) (d : Option ℕ) (s : StructureR) → Adds s → Adds (with_field name scalar d s)
field_adds name scalar d s h =
    let f : FieldR = record { name = name; member = record { scalar = scalar; dimension = d; offset = s.size } } in
    record {
      bytes = counted_twice (bytes_of_fields s.fields) s.size (elements d * size_of scalar) h.bytes ∙ ap counted (sym (pushed_bytes s.fields f));
      scalars = counted_once (scalars_of_fields s.fields) s.scalars (elements d) h.scalars ∙ ap counted (sym (pushed_scalars s.fields f));
    }

names_add : (ns : List NameT) (scalar : layout.ScalarType) (d : Option ℕ) (s : StructureR) (k : Known) → Adds s → Adds (with_member_names ns scalar d s k).0
names_add [] scalar d s k h = h
names_add (n ∷ ns) scalar d s k h =
    let r = with_member_name n scalar d s k in names_add ns scalar d r.0 r.1 (field_adds (normal n.text) scalar d s h)

members_add : (place : Position) (ms : List MemberT) (s : StructureR) (k : Known) → Adds s → Adds (structure_for place ms s k).0
members_add place [] s k h = h
members_add place (m ∷ ms) s k h =
    let d = number_of_elements place (member_count m) k in
    let r = with_members place m s k in
    members_add place ms r.0 r.1 (names_add (member_names m) (scalar_of (member_scalar m)) d.0 s d.1 h)

-- ---- a dimension is positive

positive_if : (b : Bool) (n : ℕ) → (b ≡ true → 0 < n) → 0 < cond b n 1
positive_if true n h = h refl
positive_if false n h = omega arith

positive_dimension : (n : ℕ) → is_dimension n ≡ true → 0 < n
positive_dimension n h = grind (arith, nat_tests)

number_positive : (place : Position) (n : Option NumeralT) (k : Known) → 0 < elements (number_of_elements place n k).0
number_positive place None k = omega arith
number_positive place (Some n) k = positive_if (is_dimension n.value) n.value (positive_dimension n.value)

-- ---- an array of structures

bytes_are_more : (fs : List FieldR) → scalars_of_fields fs ≤ bytes_of_fields fs
bytes_are_more [] = omega arith
bytes_are_more (f ∷ fs) = let rest = bytes_are_more fs in let one = at_least (elements f.member.dimension) f.member.scalar in omega (arith, rest, one)
  where
    at_least : (n : ℕ) (s : layout.ScalarType) → n ≤ n * size_of s
    at_least n Byte = omega arith
    at_least n Word = omega arith
    at_least n Pointer = omega arith
    at_least n Integer = omega arith

row_scalar : (s : StructureR) (i p : ℕ) → p < s.scalars → scalar_of_structure s (i * s.scalars + p) ≡ scalar_in s.fields p
row_scalar s i p h = chosen (nat_lt 0 s.scalars) (grind (arith, nat_tests)) ∙ ap (scalar_in s.fields) (mod-mul-add i s.scalars p h)
  where
    chosen : (b : Bool) → b ≡ true → cond b (scalar_in s.fields ((i * s.scalars + p) % s.scalars)) Byte ≡ scalar_in s.fields ((i * s.scalars + p) % s.scalars)
    chosen true e = refl
    chosen false e = cc

rows_bytes : (s : StructureR) (n : ℕ) → s.scalars ≡ scalars_of_fields s.fields → bytes_before (scalar_of_structure s) (n * s.scalars) ≡ n * bytes_of_fields s.fields
rows_bytes s zero e = omega (arith, ap (bytes_before (scalar_of_structure s)) (zeroth s.scalars), zeroth (bytes_of_fields s.fields))
  where
    zeroth : (m : ℕ) → 0 * m ≡ 0
    zeroth m = omega arith
rows_bytes s (suc n) e =
    let at = scalar_of_structure s in
    let one : suc n * s.scalars ≡ n * s.scalars + s.scalars = grind arith in
    let two : suc n * bytes_of_fields s.fields ≡ n * bytes_of_fields s.fields + bytes_of_fields s.fields = grind arith in
    let row = same_bytes (λ i. at (n * s.scalars + i)) (scalar_in s.fields) s.scalars (row_scalar s n) ∙ ap (bytes_before (scalar_in s.fields)) e ∙ bytes_of_row s.fields in
    ap (bytes_before at) one ∙ split_bytes at (n * s.scalars) s.scalars ∙ (λ j. rows_bytes s n e j + row j) ∙ sym two

-- ---- the scalars of a name

-- where scalars fill a name, one after another: this number stand there, and where its bytes are fewer than can be counted, they have room in it
pub record RowFits (at : ℕ → layout.ScalarType) (scalars size : ℕ) : Type 0 where
  pub counted_up : scalars ≤ 18446744073709551615
  pub room : size < 18446744073709551615 → (n : ℕ) → n ≤ scalars → bytes_before at n ≤ size

abbrev pub ShapeFits : Known → Shape → Type 0
ShapeFits k s = RowFits (scalar_at k s.form) (scalars_in_name k s) (size_of_shape s)

alike_fit : (s : layout.ScalarType) (n : ℕ) → RowFits (λ i. s) (counted (1 * n)) (counted (size_of s * n))
alike_fit s n = record {
  counted_up = omega arith;
  room = λ small m p. let all = bytes_alike s m in let few = bounded s n m p in omega (arith, all, few, small);
}
  where
    bounded : (s : layout.ScalarType) (n m : ℕ) → m ≤ counted (1 * n) → m * size_of s ≤ size_of s * n
    bounded Byte n m p = omega (arith, p)
    bounded Word n m p = omega (arith, p)
    bounded Pointer n m p = omega (arith, p)
    bounded Integer n m p = omega (arith, p)

factor_below : (a b : ℕ) → 0 < b → a ≤ a * b
factor_below a zero q = omega (arith, q)
factor_below a (suc b) q = let e : a * suc b ≡ a * b + a = grind arith in omega (arith, e)

turned : (a b : ℕ) → a * b ≡ b * a
turned a b = grind arith

structure_room : (s : StructureR) (n m : ℕ) → Adds s → 0 < n → counted (s.size * n) < 18446744073709551615 → m ≤ counted (s.scalars * n)
    → bytes_before (scalar_of_structure s) m ≤ counted (s.size * n)
structure_room s n m h p small q =
    let whole = uncounted (s.size * n) small in
    let below = factor_below s.size n p in
    let bytes : s.size ≡ bytes_of_fields s.fields = omega (arith, h.bytes, whole, below, small) in
    let fewer = bytes_are_more s.fields in
    let scalars : s.scalars ≡ scalars_of_fields s.fields = omega (arith, h.scalars, bytes, fewer, whole, below, small) in
    let all = rows_bytes s n scalars in
    let up : m ≤ n * s.scalars = omega (arith, q, turned s.scalars n) in
    let most = more_bytes (scalar_of_structure s) m (n * s.scalars) up in
    let same : s.size * n ≡ n * bytes_of_fields s.fields = turned s.size n ∙ ap (λ (b : ℕ). n * b) bytes in
    omega (arith, most, all, same, whole)

structure_fits : (s : StructureR) (n : ℕ) → Adds s → 0 < n → RowFits (scalar_of_structure s) (counted (s.scalars * n)) (counted (s.size * n))
structure_fits s n h p = record { counted_up = omega arith; room = λ small m q. structure_room s n m h p small q }

form_fits : (place : Position) (t : TypeT) (k : Known) (n : ℕ) → 0 < n
    → let r = form_for place t k in RowFits (scalar_at r.1 r.0) (counted (scalars_of r.1 r.0 * n)) (counted (stride_of r.1 r.0 * n))
form_fits place (ScalarType s) k n p = alike_fit (scalar_of s) n
form_fits place (StructureType ms) k n p =
    let r = structure_for place (member_list ms) no_fields k in
    let adds : Adds r.0 = members_add place (member_list ms) no_fields k (record { bytes = refl; scalars = refl }) in
    subst (λ (o : Option StructureR). RowFits (λ i. option_map_or (λ s. scalar_of_structure s i) o Byte) (counted (option_map_or (λ s. s.scalars) o 0 * n)) (counted (option_map_or (λ s. s.size) o 0 * n)))
    (sym (last_got r.1.structures r.0)) (structure_fits r.0 n adds p)

-- ---- the same tables

-- the same variables, structures and objects
pub record SameTables (k q : Known) : Type 0 where
  pub variables : q.variables ≡ k.variables
  pub structures : q.structures ≡ k.structures
  pub objects : q.objects ≡ k.objects

pub same_tables : (k : Known) → SameTables k k
same_tables k = record { variables = refl; structures = refl; objects = refl }

pub same_then : {k q r : Known} → SameTables k q → SameTables q r → SameTables k r
same_then a b = record { variables = b.variables ∙ a.variables; structures = b.structures ∙ a.structures; objects = b.objects ∙ a.objects }

pub noted_same : (b : Bool) (n : Number) (place : Position) (k : Known) → SameTables k (note_unless b n place k)
noted_same true n place k = same_tables k
noted_same false n place k = record { variables = refl; structures = refl; objects = refl }

number_same : (place : Position) (n : Option NumeralT) (k : Known) → SameTables k (number_of_elements place n k).1
number_same place None k = same_tables k
number_same place (Some n) k = noted_same (is_dimension n.value) E305 place k

names_same : (ns : List NameT) (scalar : layout.ScalarType) (d : Option ℕ) (s : StructureR) (k : Known) → SameTables k (with_member_names ns scalar d s k).1
names_same [] scalar d s k = same_tables k
names_same (n ∷ ns) scalar d s k =
    let r = with_member_name n scalar d s k in same_then (noted_same (not (has_field (normal n.text) s.fields)) E302 n.place k) (names_same ns scalar d r.0 r.1)

members_same : (place : Position) (ms : List MemberT) (s : StructureR) (k : Known) → SameTables k (structure_for place ms s k).1
members_same place [] s k = same_tables k
members_same place (m ∷ ms) s k =
    let d = number_of_elements place (member_count m) k in
    let r = with_members place m s k in
    same_then (same_then (number_same place (member_count m) k) (names_same (member_names m) (scalar_of (member_scalar m)) d.0 s d.1)) (members_same place ms r.0 r.1)

dimension_same : (place : Position) (count : ℕ) (d : DimensionT) (f : Form) (vs : List ValueT) (k : Known) → SameTables k (dimension_for place count d f vs k).1
dimension_same place count no_dimension f vs k = same_tables k
dimension_same place count (dimension n) f vs k = number_same place (Some n) k
dimension_same place count implicit_dimension f vs k = noted_same (nat_eq count 1 && is_dimension (elements_filled k f vs)) E305 place k

implicit_positive : (b : Bool) (n : ℕ) → 0 < cond (b && is_dimension n) n 1
implicit_positive true n = positive_if (is_dimension n) n (positive_dimension n)
implicit_positive false n = omega arith

dimension_positive : (place : Position) (count : ℕ) (d : DimensionT) (f : Form) (vs : List ValueT) (k : Known) → 0 < elements (dimension_for place count d f vs k).0
dimension_positive place count no_dimension f vs k = omega arith
dimension_positive place count (dimension n) f vs k = number_positive place (Some n) k
dimension_positive place count implicit_dimension f vs k = implicit_positive (nat_eq count 1) (elements_filled k f vs)

-- ---- shapes

-- what a shape leaves as it was
pub record SameObjects (k q : Known) : Type 0 where
  pub variables : q.variables ≡ k.variables
  pub objects : q.objects ≡ k.objects

form_same : (place : Position) (t : TypeT) (k : Known) → SameObjects k (form_for place t k).1
form_same place (ScalarType s) k = record { variables = refl; objects = refl }
form_same place (StructureType ms) k = let here = members_same place (member_list ms) no_fields k in record { variables = here.variables; objects = here.objects }

pub shape_same : (place : Position) (count : ℕ) (d : DimensionT) (t : TypeT) (vs : List ValueT) (k : Known) → SameObjects k (shape_for place count d t vs k).1
shape_same place count d t vs k =
    let f = form_for place t k in
    let one = form_same place t k in
    let two = dimension_same place count d f.0 vs f.1 in
    record { variables = two.variables ∙ one.variables; objects = two.objects ∙ one.objects }

pub scalar_still : (k q : Known) (f : Form) (i : ℕ) → q.structures ≡ k.structures → scalar_at q f i ≡ scalar_at k f i
scalar_still k q (form.Scalar s) i e = refl
scalar_still k q (form.Structure n) i e = ap (λ (ss : List StructureR). option_map_or (λ s. scalar_of_structure s i) (slice_get ss n) Byte) e

scalars_still : (k q : Known) (f : Form) → q.structures ≡ k.structures → scalars_of q f ≡ scalars_of k f
scalars_still k q (form.Scalar s) e = refl
scalars_still k q (form.Structure n) e = ap (λ (ss : List StructureR). option_map_or (λ s. s.scalars) (slice_get ss n) 0) e

stride_still : (k q : Known) (f : Form) → q.structures ≡ k.structures → stride_of q f ≡ stride_of k f
stride_still k q (form.Scalar s) e = refl
stride_still k q (form.Structure n) e = ap (λ (ss : List StructureR). option_map_or (λ s. s.size) (slice_get ss n) 0) e

pub scalars_in_name_still : (k q : Known) (s : Shape) → q.structures ≡ k.structures → scalars_in_name q s ≡ scalars_in_name k s
scalars_in_name_still k q s e = ap (λ (n : ℕ). counted (n * elements s.dimension)) (scalars_still k q s.form e)

pub shape_fits : (place : Position) (count : ℕ) (d : DimensionT) (t : TypeT) (vs : List ValueT) (k : Known)
    → let h = shape_for place count d t vs k in ShapeFits h.1 h.0
shape_fits place count d t vs k =
    let f = form_for place t k in
    let n = dimension_for place count d f.0 vs f.1 in
    let same = dimension_same place count d f.0 vs f.1 in
    let here = form_fits place t k (elements n.0) (dimension_positive place count d f.0 vs f.1) in
    let at : (λ i. scalar_at n.1 f.0 i) ≡ (λ i. scalar_at f.1 f.0 i) = λ j i. scalar_still f.1 n.1 f.0 i same.structures j in
    let scalars = ap (λ (m : ℕ). counted (m * elements n.0)) (scalars_still f.1 n.1 f.0 same.structures) in
    let size = ap (λ (m : ℕ). counted (m * elements n.0)) (stride_still f.1 n.1 f.0 same.structures) in
    subst (λ x. x) (λ j. RowFits (sym at j) (sym scalars j) (sym size j)) here
