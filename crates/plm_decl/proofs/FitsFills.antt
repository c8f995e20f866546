-- Initial values of an element's names have room in their objects.
use Rattle.std.proofs.Common.{◌≡◌, ℕ, zero, suc, ◌+◌, ◌-◌, ◌<◌, ◌≤◌, List, [], ◌∷◌, ◌++◌, length, drop, Bool, true, false, ◌||◌, cond, Option, Some, None, nat_lt, nat_le, is_some, arith, refl, sym, ap, subst, ◌∙◌, append_assoc}
use Rattle.std.specs.Prelude.{slice_get, slice_set, sum_by}
use Rattle.std.specs.List.{list_all}
use Rattle.std.specs.Option.{option_map_or}
use Rattle.std.proofs.lemmas.List.{append-nil}
use Rattle.std.proofs.lemmas.List.Folds.{list_all-append}
use Rattle.std.proofs.lemmas.List.Sums.{sum_by-cons, sum_by-append}
use Rattle.std.proofs.lemmas.Bool.Decides.{nat_tests}
use Rattle.word86.specs.declared.number.Number.TheVariants.{E301, E305}
use Rattle.plm_token.specs.Names.{normal}
use Rattle.plm_token.specs.Strings.{string_characters}
use Rattle.plm_syntax.specs.declared.tree.Position.{Position}
use Rattle.plm_syntax.specs.declared.tree.LocationForm.{LocationForm}
use Rattle.plm_syntax.specs.declared.tree.LocationForm.TheVariants as form
use Rattle.plm_syntax.specs.Terminal.{NameT}
use Rattle.plm_syntax.specs.Tree.{ExpressionT, NumeralE, TextE, ReferenceE, LocationE, ParenthesisedE, EmbeddedE, UnaryE, BinaryE, ReferenceT, ReferenceOf, ExpressionsT, SelectorT, LocationT, ValueT, NumeralV, NegativeV, TextV, LocationV, VariableT}
use Rattle.plm_syntax.specs.Tree as tree
use Rattle.plm_decl.specs.declared.layout.ScalarType.{ScalarType}
use Rattle.plm_decl.specs.declared.layout.ScalarType.TheVariants.{Byte, Word, Pointer, Integer}
use Rattle.plm_decl.specs.declared.names.Datum.{Datum}
use Rattle.plm_decl.specs.declared.names.Datum.TheVariants as datum
use Rattle.plm_decl.specs.declared.names.Region.{Region}
use Rattle.plm_decl.specs.declared.names.Region.TheVariants as region
use Rattle.plm_decl.specs.declared.names.Variable.{Variable}
use Rattle.plm_decl.specs.declared.resolved.Binding.{Binding}
use Rattle.plm_decl.specs.declared.resolved.Binding.TheVariants as binding
use Rattle.plm_decl.specs.declared.fill.Cursor.{Cursor}
use Rattle.plm_decl.specs.Layout.{StructureR, counted, size_of, field_named}
use Rattle.plm_decl.specs.Scope.{Frame, path_in}
use Rattle.plm_decl.specs.Spelling.{constants_after}
use Rattle.plm_decl.specs.Resolver.{Known, note_unless}
use Rattle.plm_decl.specs.Names.{ObjectR}
use Rattle.plm_decl.specs.Uses.{used, binding_of, is_something}
use Rattle.plm_decl.specs.Lists.{value_list}
use Rattle.plm_decl.specs.Resolved.{LocationR', LocationOf, ConstantsOf, ReferenceR', Use}
use Rattle.plm_decl.specs.Datum.{number_datum, text_datum, word_datum, character_datum, is_byte, takes, signed}
use Rattle.plm_decl.specs.Expressions.{structure_meant, member_of_structure, member_meant, all_constant_data, are_constants, with_constants, expression, reference, subscripts, selector, location}
use Rattle.plm_decl.specs.Shape.{scalar_at, size_of_shape}
use Rattle.plm_decl.specs.Sites.{distance}
use Rattle.plm_decl.specs.Fill.{address_at, address_datum, variable_datum, reference_datum, location_datum, form_of_location, location_in, datum_for, FillingR, with_datum, given_at, given_in, put_datum, scalars_in_name, cursor_after, too_many, name_at, put_at, put_value, past_at, unless_past, put_characters, put_single, filled_with, filled_from, filled}
use Rattle.plm_decl.specs.Values.{bytes_of_datum}
use Rattle.plm_decl.proofs.Kept.{both, all_set, maybe, maybe_unless}
use Rattle.plm_decl.proofs.Objects.{bytes_of_values}
use Rattle.plm_decl.proofs.FitsShapes.{bytes_before, ShapeFits, SameTables, same_tables, noted_same, scalar_still, scalars_in_name_still}

-- the initial values of an object have room in it, where its bytes are fewer than can be counted
abbrev pub fits : ObjectR → Bool
fits o = nat_le 18446744073709551615 o.size || nat_le (sum_by bytes_of_datum o.initial) o.size

pub fits_where : (o : ObjectR) → (o.size < 18446744073709551615 → sum_by bytes_of_datum o.initial ≤ o.size) → fits o ≡ true
fits_where o h = cases (nat_lt o.size 18446744073709551615) refl
  where
    cases : (b : Bool) → nat_lt o.size 18446744073709551615 ≡ b → fits o ≡ true
    cases true e = let small : o.size < 18446744073709551615 = grind (arith, nat_tests) in let room = h small in grind (arith, nat_tests)
    cases false e = grind (arith, nat_tests)

-- ---- what names and locations add: objects of constants

pub record Extends (k q : Known) : Type 0 where
  pub variables : q.variables ≡ k.variables
  pub structures : q.structures ≡ k.structures
  pub made : List ObjectR
  pub objects : q.objects ≡ k.objects ++ made
  pub fit : list_all fits made ≡ true

pub extends : {k q : Known} → SameTables k q → Extends k q
extends {k} {q} s = record { variables = s.variables; structures = s.structures; made = []; objects = s.objects ∙ sym (append-nil k.objects); fit = refl }

pub extends_none : (k : Known) → Extends k k
extends_none k = extends (same_tables k)

pub extends_then : {k q r : Known} → Extends k q → Extends q r → Extends k r
extends_then {k} {q} {r} a b = record {
  variables = b.variables ∙ a.variables;
  structures = b.structures ∙ a.structures;
  made = a.made ++ b.made;
  objects = b.objects ∙ ap (λ (os : List ObjectR). os ++ b.made) a.objects ∙ append_assoc k.objects a.made b.made;
  fit = list_all-append fits a.made b.made ∙ both a.fit b.fit;
}

pub used_extends : (frames : List Frame) (n : NameT) (k : Known) → Extends k (used frames n k).1
used_extends frames n k = extends (noted_same (is_something (binding_of frames n)) E301 n.place k)

member_extends : (s : Option StructureR) (n : NameT) (k : Known) → Extends k (member_of_structure s n k).1
member_extends None n k = extends_none k
member_extends (Some s) n k = extends (noted_same (is_some (field_named (normal n.text) s.fields)) E301 n.place k)

abbrev constants_made : List Frame → Known → List Datum → ObjectR
constants_made frames k ds = record { path = constants_after (path_in frames) (counted (k.constants + 1)); size = length ds; initial = ds }

constants_extend : (b : Bool) (frames : List Frame) (place : Position) (vs : List ValueT) (k : Known) → Extends k (with_constants frames (all_constant_data vs) (note_unless b E305 place k))
constants_extend true frames place vs k = record {
  variables = refl;
  structures = refl;
  made = constants_made frames k (all_constant_data vs) ∷ [];
  objects = refl;
  fit = both (fits_where (constants_made frames k (all_constant_data vs)) (λ h. omega (arith, bytes_of_values vs))) refl;
}
constants_extend false frames place vs k = record {
  variables = refl;
  structures = refl;
  made = constants_made frames k (all_constant_data vs) ∷ [];
  objects = refl;
  fit = both (fits_where (constants_made frames k (all_constant_data vs)) (λ h. omega (arith, bytes_of_values vs))) refl;
}

mutual
  pub expression_extends : (frames : List Frame) (e : ExpressionT) (k : Known) → Extends k (expression frames e k).1
  expression_extends frames (NumeralE n) k = extends_none k
  expression_extends frames (TextE s) k = extends_none k
  expression_extends frames (ReferenceE x) k = reference_extends frames x k
  expression_extends frames (LocationE l) k = location_extends frames l k
  expression_extends frames (ParenthesisedE p e) k = expression_extends frames e k
  expression_extends frames (EmbeddedE p x e) k = extends_then (reference_extends frames x k) (expression_extends frames e (reference frames x k).1)
  expression_extends frames (UnaryE p o e) k = expression_extends frames e k
  expression_extends frames (BinaryE p o a b) k = extends_then (expression_extends frames a k) (expression_extends frames b (expression frames a k).1)

  pub reference_extends : (frames : List Frame) (x : ReferenceT) (k : Known) → Extends k (reference frames x k).1
  reference_extends frames (ReferenceOf n es s) k =
      let m = used frames n k in let x = subscripts frames es m.1 in
      extends_then (used_extends frames n k) (extends_then (subscripts_extend frames es m.1) (selector_extends frames m.0 s x.1))

  subscripts_extend : (frames : List Frame) (es : ExpressionsT) (k : Known) → Extends k (subscripts frames es k).1
  subscripts_extend frames tree.no_expressions k = extends_none k
  subscripts_extend frames (tree.expressions es e) k = extends_then (subscripts_extend frames es k) (expression_extends frames e (subscripts frames es k).1)

  selector_extends : (frames : List Frame) (m : Binding) (s : SelectorT) (k : Known) → Extends k (selector frames m s k).1
  selector_extends frames m tree.no_member k = extends_none k
  selector_extends frames m (tree.member n) k = member_extends (structure_meant k m) n k
  selector_extends frames m (tree.member_at n e) k = extends_then (member_extends (structure_meant k m) n k) (expression_extends frames e (member_meant m n k).1)

  pub location_extends : (frames : List Frame) (l : LocationT) (k : Known) → Extends k (location frames l k).1
  location_extends frames (tree.LocationOf p f x) k = reference_extends frames x k
  location_extends frames (tree.ConstantsOf p f vs) k = constants_extend (are_constants (value_list vs)) frames p (value_list vs) k

location_in_extends : (frames : List Frame) (s : ScalarType) (l : LocationT) (k : Known) → Extends k (location_in frames s l k).1
location_in_extends frames s l k =
    let here = location_extends frames l k in
    record { variables = here.variables; structures = here.structures; made = here.made; objects = here.objects; fit = here.fit }

pub datum_extends : (frames : List Frame) (s : ScalarType) (v : ValueT) (k : Known) → Extends k (datum_for frames s v k).1
datum_extends frames s (NumeralV n) k = extends_none k
datum_extends frames s (NegativeV n) k = extends_none k
datum_extends frames s (TextV t) k = extends_none k
datum_extends frames s (LocationV l) k = location_in_extends frames s l k

-- ---- a value has the bytes of its scalar

abbrev datum_fits : ScalarType → Datum → Bool
datum_fits s d = nat_le (bytes_of_datum d) (size_of s)

byte_fits : (b : Bool) (n : ℕ) → maybe (datum_fits Byte) (cond b (Some (datum.Byte n)) None) ≡ true
byte_fits true n = refl
byte_fits false n = refl

word_fits : (b : Bool) (n : ℕ) → maybe (datum_fits Word) (cond b (Some (datum.Word n)) None) ≡ true
word_fits true n = refl
word_fits false n = refl

number_fits : (s : ScalarType) (n : ℕ) (negative : Bool) → maybe (datum_fits s) (number_datum s n negative) ≡ true
number_fits Byte n negative = byte_fits (nat_lt n 256) (signed negative 256 n)
number_fits Word n negative = word_fits (nat_lt n 65536) (signed negative 65536 n)
number_fits Pointer n negative = refl
number_fits Integer n negative = word_fits (nat_le n (cond negative 32768 32767)) (signed negative 65536 n)

characters_fit : (xs : List ℕ) → maybe (datum_fits Word) (word_datum xs) ≡ true
characters_fit [] = refl
characters_fit (low ∷ []) = refl
characters_fit (high ∷ low ∷ []) = refl
characters_fit (x ∷ y ∷ z ∷ more) = refl

text_fits : (s : ScalarType) (xs : List ℕ) → maybe (datum_fits s) (text_datum s xs) ≡ true
text_fits Byte xs = refl
text_fits Word xs = characters_fit xs
text_fits Pointer xs = refl
text_fits Integer xs = refl

character_fits : (s : ScalarType) (x : ℕ) → maybe (datum_fits s) (character_datum s x) ≡ true
character_fits Byte x = refl
character_fits Word x = refl
character_fits Pointer x = refl
character_fits Integer x = refl

-- a value of at most two bytes
abbrev is_pair : Datum → Bool
is_pair d = nat_le (bytes_of_datum d) 2

address_at_pair : (n : ℕ) (d : Option ℕ) → maybe is_pair (address_at n d) ≡ true
address_at_pair n None = refl
address_at_pair n (Some d) = refl

address_pair : (n : ℕ) (r : Region) (d : Option ℕ) → maybe is_pair (address_datum n r d) ≡ true
address_pair n (region.Ram o x) d = address_at_pair n d
address_pair n (region.Screen page x) d = address_at_pair n d
address_pair n (region.Based v) d = refl
address_pair n region.Nowhere d = address_at_pair n d

variable_pair : (n : ℕ) (v : Option Variable) (d : Option ℕ) → maybe is_pair (variable_datum n v d) ≡ true
variable_pair n None d = refl
variable_pair n (Some v) d = address_pair n v.region d

reference_pair : (k : Known) (x : ReferenceR') → maybe is_pair (reference_datum k x) ≡ true
reference_pair k (Use p (binding.Variable n) es s) = variable_pair n (slice_get k.variables n) (distance k (Use p (binding.Variable n) es s))
reference_pair k (Use p (binding.Procedure q) es s) = refl
reference_pair k (Use p (binding.Builtin b) es s) = refl
reference_pair k (Use p binding.Nothing es s) = refl

location_pair : (k : Known) (l : LocationR') → maybe is_pair (location_datum k l) ≡ true
location_pair k (LocationOf p f x) = reference_pair k x
location_pair k (ConstantsOf p f o) = refl

-- a BYTE takes no location
location_fits : (s : ScalarType) (f : LocationForm) (d : Option Datum) → maybe is_pair d ≡ true → maybe (datum_fits s) (cond (takes s f) d None) ≡ true
location_fits Byte form.Offset d h = refl
location_fits Byte form.Pointer d h = refl
location_fits Word f d h = maybe_unless is_pair (takes Word f) d h
location_fits Pointer f d h = maybe_unless is_pair (takes Pointer f) d h
location_fits Integer f d h = maybe_unless is_pair (takes Integer f) d h

pub value_fits : (frames : List Frame) (s : ScalarType) (v : ValueT) (k : Known) → maybe (datum_fits s) (datum_for frames s v k).0 ≡ true
value_fits frames s (NumeralV n) k = number_fits s n.value false
value_fits frames s (NegativeV n) k = number_fits s n.value true
value_fits frames s (TextV t) k = text_fits s (string_characters t.text)
value_fits frames s (LocationV l) k = let r = location frames l k in location_fits s (form_of_location l) (location_datum r.1 r.0) (location_pair r.1 r.0)

-- ---- objects in which there is room

-- an object of this size, with at most this many bytes so far
pub record Holds (os : List ObjectR) (size most o : ℕ) : Type 0 where
  pub object : ObjectR
  pub got : slice_get os o ≡ Some object
  pub bytes : object.size ≡ size
  pub few : sum_by bytes_of_datum object.initial ≤ most

-- the objects of some variables, one after another from this number on, with a limit to the bytes of the first
abbrev pub PendingAt : List ObjectR → ℕ → ℕ → ℕ → Region → (ℕ → Type 0) → Type 0
PendingAt os size most low (region.Ram o x) rest = (low ≤ o) × Holds os size most o × rest (suc o)
PendingAt os size most low (region.Screen page x) rest = rest low
PendingAt os size most low (region.Based v) rest = rest low
PendingAt os size most low region.Nowhere rest = rest low

-- without values
abbrev pub Pending : List ObjectR → ℕ → ℕ → List Variable → Type 0
Pending os size low [] = Unit {0}
Pending os size low (v ∷ vs) = PendingAt os size 0 low v.region (λ n. Pending os size n vs)

-- with a limit to the bytes of the first
abbrev pub Ready : List ObjectR → ℕ → ℕ → ℕ → List Variable → Type 0
Ready os size most low [] = Unit {0}
Ready os size most low (v ∷ vs) = PendingAt os size most low v.region (λ n. Pending os size n vs)

pub ready_first : (os : List ObjectR) (size low : ℕ) (vs : List Variable) → Pending os size low vs → Ready os size 0 low vs
ready_first os size low [] h = tt
ready_first os size low (v ∷ vs) h = h

at_map : (os more : List ObjectR) (size most top low : ℕ) (r : Region) (P Q : ℕ → Type 0)
    → ((o : ℕ) → low ≤ o → Holds os size most o → Holds more size top o) → ((n : ℕ) → low ≤ n → P n → Q n)
    → PendingAt os size most low r P → PendingAt more size top low r Q
at_map os more size most top low (region.Ram o x) P Q f g h = let l : low ≤ o = h.0 in (l, f o l h.1, g (suc o) (omega (arith, l)) h.2)
at_map os more size most top low (region.Screen page x) P Q f g h = g low (omega arith) h
at_map os more size most top low (region.Based v) P Q f g h = g low (omega arith) h
at_map os more size most top low region.Nowhere P Q f g h = g low (omega arith) h

pub pending_map : (os more : List ObjectR) (size low : ℕ) (vs : List Variable) → ((o : ℕ) → low ≤ o → Holds os size 0 o → Holds more size 0 o)
    → Pending os size low vs → Pending more size low vs
pending_map os more size low [] f h = tt
pending_map os more size low (v ∷ vs) f h =
    at_map os more size 0 0 low v.region (λ n. Pending os size n vs) (λ n. Pending more size n vs) f (λ n l g. pending_map os more size n vs (λ o m. f o (omega (arith, l, m))) g) h

ready_map : (os more : List ObjectR) (size most top low : ℕ) (vs : List Variable)
    → ((o : ℕ) → low ≤ o → Holds os size most o → Holds more size top o) → ((o : ℕ) → low ≤ o → Holds os size 0 o → Holds more size 0 o)
    → Ready os size most low vs → Ready more size top low vs
ready_map os more size most top low [] e f h = tt
ready_map os more size most top low (v ∷ vs) e f h =
    at_map os more size most top low v.region (λ n. Pending os size n vs) (λ n. Pending more size n vs) e (λ n l g. pending_map os more size n vs (λ o m. f o (omega (arith, l, m))) g) h

got_pushed : (os more : List ObjectR) (i : ℕ) (x : ObjectR) → slice_get os i ≡ Some x → slice_get (os ++ more) i ≡ Some x
got_pushed [] more i x e = cc
got_pushed (o ∷ os) more zero x e = e
got_pushed (o ∷ os) more (suc i) x e = got_pushed os more i x e

pub holds_pushed : (os more : List ObjectR) (size most o : ℕ) → Holds os size most o → Holds (os ++ more) size most o
holds_pushed os more size most o h = record { object = h.object; got = got_pushed os more o h.object h.got; bytes = h.bytes; few = h.few }

ready_pushed : (os more : List ObjectR) (size most low : ℕ) (vs : List Variable) → Ready os size most low vs → Ready (os ++ more) size most low vs
ready_pushed os more size most low vs h =
    ready_map os (os ++ more) size most most low vs (λ o l g. holds_pushed os more size most o g) (λ o l g. holds_pushed os more size 0 o g) h

ready_more : (os : List ObjectR) (size most top low : ℕ) (vs : List Variable) → most ≤ top → Ready os size most low vs → Ready os size top low vs
ready_more os size most top low vs m h =
    ready_map os os size most top low vs (λ o l g. let few : sum_by bytes_of_datum g.object.initial ≤ top = omega (arith, m, g.few) in record { object = g.object; got = g.got; bytes = g.bytes; few = few }) (λ o l g. g) h

next_at : (os : List ObjectR) (size most low : ℕ) (r : Region) (P : ℕ → Type 0) → PendingAt os size most low r P → (l : ℕ) × P l
next_at os size most low (region.Ram o x) P h = (suc o, h.2)
next_at os size most low (region.Screen page x) P h = (low, h)
next_at os size most low (region.Based v) P h = (low, h)
next_at os size most low region.Nowhere P h = (low, h)

-- after the first
ready_next : (os : List ObjectR) (size most low : ℕ) (vs : List Variable) (n : ℕ) → Ready os size most low (drop n vs) → (l : ℕ) × Ready os size 0 l (drop (suc n) vs)
ready_next os size most low [] zero h = (0, tt)
ready_next os size most low [] (suc n) h = (0, tt)
ready_next os size most low (v ∷ vs) zero h = let r = next_at os size most low v.region (λ n. Pending os size n vs) h in (r.0, ready_first os size r.0 vs r.1)
ready_next os size most low (v ∷ vs) (suc n) h = ready_next os size most low vs n h

-- ---- one more value

got_set : (os : List ObjectR) (i : ℕ) (x y : ObjectR) → slice_get os i ≡ Some x → slice_get (slice_set os i y) i ≡ Some y
got_set [] i x y e = cc
got_set (o ∷ os) zero x y e = refl
got_set (o ∷ os) (suc i) x y e = got_set os i x y e

got_beside : (os : List ObjectR) (j i : ℕ) (y : ObjectR) → j < i → slice_get (slice_set os j y) i ≡ slice_get os i
got_beside [] j i y h = refl
got_beside (o ∷ os) zero zero y h = absurd (omega (arith, h))
got_beside (o ∷ os) zero (suc i) y h = refl
got_beside (o ∷ os) (suc j) zero y h = absurd (omega (arith, h))
got_beside (o ∷ os) (suc j) (suc i) y h = got_beside os j i y (omega (arith, h))

holds_beside : (os : List ObjectR) (j : ℕ) (y : ObjectR) (size most o : ℕ) → j < o → Holds os size most o → Holds (slice_set os j y) size most o
holds_beside os j y size most o l h = record { object = h.object; got = got_beside os j o y l ∙ h.got; bytes = h.bytes; few = h.few }

-- from what was known to what is known
record Given (size most low : ℕ) (vs : List Variable) (q : Known) : Type 0 where
  fit : list_all fits q.objects ≡ true
  ready : Ready q.objects size most low vs

record GivenAt (size most low : ℕ) (r : Region) (vs : List Variable) (q : Known) : Type 0 where
  fit : list_all fits q.objects ≡ true
  ready : PendingAt q.objects size most low r (λ n. Pending q.objects size n vs)

more_bytes_in : (d : Datum) (x : ObjectR) (most b : ℕ) → bytes_of_datum d ≤ b → sum_by bytes_of_datum x.initial ≤ most → sum_by bytes_of_datum (with_datum d x).initial ≤ most + b
more_bytes_in d x most b h g =
    let all = sum_by-append bytes_of_datum x.initial (d ∷ []) in
    let one = sum_by-cons bytes_of_datum d [] in
    omega (arith, all, one, h, g)

given_object : (size most b low o : ℕ) (vs : List Variable) (d : Datum) (k : Known) (x : ObjectR)
    → bytes_of_datum d ≤ b → (size < 18446744073709551615 → most + b ≤ size) → low ≤ o → slice_get k.objects o ≡ Some x → x.size ≡ size → sum_by bytes_of_datum x.initial ≤ most
    → Pending k.objects size (suc o) vs → list_all fits k.objects ≡ true
    → GivenAt size (most + b) low (region.Ram o 0) vs (given_at o d (Some x) k)
given_object size most b low o vs d k x h room l e bytes few rest fit =
    let y = with_datum d x in
    let more = more_bytes_in d x most b h few in
    let y_fits : fits y ≡ true = fits_where y (λ small. let r = room (omega (arith, small, bytes)) in omega (arith, more, r, bytes)) in
    record {
      fit = all_set fits k.objects o y fit y_fits;
      ready = (
        l,
        record { object = y; got = got_set k.objects o x y e; bytes = bytes; few = more },
        pending_map k.objects (slice_set k.objects o y) size (suc o) vs (λ i m g. holds_beside k.objects o y size 0 i (omega (arith, m)) g) rest,
      );
    }

given_region : (size most b low : ℕ) (r : Region) (vs : List Variable) (d : Datum) (k : Known)
    → bytes_of_datum d ≤ b → (size < 18446744073709551615 → most + b ≤ size)
    → PendingAt k.objects size most low r (λ n. Pending k.objects size n vs) → list_all fits k.objects ≡ true
    → GivenAt size (most + b) low r vs (given_in r d k)
given_region size most b low (region.Ram o x) vs d k h room g fit =
    let here = g.1 in
    let made = given_object size most b low o vs d k here.object h room g.0 here.got here.bytes here.few g.2 fit in
    let all : GivenAt size (most + b) low (region.Ram o x) vs (given_at o d (Some here.object) k) = record { fit = made.fit; ready = made.ready } in
    subst (λ (at : Option ObjectR). GivenAt size (most + b) low (region.Ram o x) vs (given_at o d at k)) (sym here.got) all
given_region size most b low (region.Screen page x) vs d k h room g fit = record { fit = fit; ready = g }
given_region size most b low (region.Based v) vs d k h room g fit = record { fit = fit; ready = g }
given_region size most b low region.Nowhere vs d k h room g fit = record { fit = fit; ready = g }

given_there : (size most b low : ℕ) (vs : List Variable) (n : ℕ) (d : Datum) (k : Known)
    → bytes_of_datum d ≤ b → (size < 18446744073709551615 → most + b ≤ size)
    → Ready k.objects size most low (drop n vs) → list_all fits k.objects ≡ true
    → Given size (most + b) low (drop n vs) (option_map_or (λ v. given_in v.region d k) (slice_get vs n) k)
given_there size most b low [] zero d k h room g fit = record { fit = fit; ready = tt }
given_there size most b low [] (suc n) d k h room g fit = record { fit = fit; ready = tt }
given_there size most b low (v ∷ vs) zero d k h room g fit = let r = given_region size most b low v.region vs d k h room g fit in record { fit = r.fit; ready = r.ready }
given_there size most b low (v ∷ vs) (suc n) d k h room g fit = given_there size most b low vs n d k h room g fit

-- the tables that a value leaves as they were
record SameNames (k q : Known) : Type 0 where
  variables : q.variables ≡ k.variables
  structures : q.structures ≡ k.structures

object_names : (o : ℕ) (d : Datum) (at : Option ObjectR) (k : Known) → SameNames k (given_at o d at k)
object_names o d None k = record { variables = refl; structures = refl }
object_names o d (Some x) k = record { variables = refl; structures = refl }

region_names : (r : Region) (d : Datum) (k : Known) → SameNames k (given_in r d k)
region_names (region.Ram o x) d k = object_names o d (slice_get k.objects o) k
region_names (region.Screen page x) d k = record { variables = refl; structures = refl }
region_names (region.Based v) d k = record { variables = refl; structures = refl }
region_names region.Nowhere d k = record { variables = refl; structures = refl }

given_names : (v : Option Variable) (d : Datum) (k : Known) → SameNames k (option_map_or (λ v. given_in v.region d k) v k)
given_names None d k = record { variables = refl; structures = refl }
given_names (Some v) d k = region_names v.region d k

none_behind : (vs : List Variable) (n : ℕ) → length vs ≤ n → slice_get vs n ≡ None
none_behind [] n h = refl
none_behind (v ∷ vs) zero h = absurd (omega (arith, h))
none_behind (v ∷ vs) (suc n) h = none_behind vs n (omega (arith, h))

counted_get : (vs : List Variable) (n : ℕ) → length vs < 18446744073709551616 → slice_get vs (counted n) ≡ slice_get vs n
counted_get vs n h = cases (nat_le n 18446744073709551615) refl
  where
    cases : (b : Bool) → nat_le n 18446744073709551615 ≡ b → slice_get vs (counted n) ≡ slice_get vs n
    cases true e = let l : n ≤ 18446744073709551615 = grind (arith, nat_tests) in ap (slice_get vs) (omega (arith, l))
    cases false e =
        let l : 18446744073709551615 < n = grind (arith, nat_tests) in
        none_behind vs (counted n) (omega (arith, l, h)) ∙ sym (none_behind vs n (omega (arith, l, h)))

-- ---- filling

pub record Good (f : FillingR) (base : Known) (scalar name : ℕ) (most : ℕ) (os : List ObjectR) : Type 0 where
  pub fit : list_all fits os ≡ true
  pub low : ℕ
  pub ready : Ready os (size_of_shape f.shape) most low (drop (f.number + name) base.variables)

-- the values before the cursor are in their objects, which have room for them
pub record Filled (f : FillingR) (base : Known) (c : Cursor) (k : Known) : Type 0 where
  pub variables : k.variables ≡ base.variables
  pub structures : k.structures ≡ base.structures
  pub good : length base.variables < 18446744073709551616 → Good f base c.scalar c.name (bytes_before (scalar_at base f.shape.form) c.scalar) k.objects

-- and the one at the cursor
record Wrote (f : FillingR) (base : Known) (c : Cursor) (k : Known) : Type 0 where
  variables : k.variables ≡ base.variables
  structures : k.structures ≡ base.structures
  good : length base.variables < 18446744073709551616 → Good f base c.scalar c.name (bytes_before (scalar_at base f.shape.form) (suc c.scalar)) k.objects

extended : {f : FillingR} {base : Known} {c : Cursor} {k q : Known} → Filled f base c k → Extends k q → Filled f base c q
extended {f} {base} {c} {k} {q} s e =
    let most = bytes_before (scalar_at base f.shape.form) c.scalar in
    record {
      variables = e.variables ∙ s.variables;
      structures = e.structures ∙ s.structures;
      good = λ h.
          let g = s.good h in
          let pushed : Good f base c.scalar c.name most (k.objects ++ e.made) = record {
            fit = list_all-append fits k.objects e.made ∙ both g.fit e.fit;
            low = g.low;
            ready = ready_pushed k.objects e.made (size_of_shape f.shape) most g.low (drop (f.number + c.name) base.variables) g.ready;
          } in
          subst (λ (os : List ObjectR). Good f base c.scalar c.name most os) (sym e.objects) pushed;
    }

within_scalar : (s : ScalarType) (d : Datum) → datum_fits s d ≡ true → bytes_of_datum d ≤ size_of s
within_scalar s d h = grind (arith, nat_tests)

put_wrote : (f : FillingR) (base : Known) (c : Cursor) (v : VariableT) (d : Option Datum) (k : Known)
    → ShapeFits base f.shape → c.scalar < scalars_in_name base f.shape → maybe (datum_fits (scalar_at base f.shape.form c.scalar)) d ≡ true → Filled f base c k
    → Wrote f base c (put_datum f c.name v d k)
put_wrote f base c v None k row inside h s = record {
  variables = s.variables;
  structures = s.structures;
  good = λ b.
      let g = s.good b in
      let at = scalar_at base f.shape.form in
      record {
        fit = g.fit;
        low = g.low;
        ready = ready_more k.objects (size_of_shape f.shape) (bytes_before at c.scalar) (bytes_before at (suc c.scalar)) g.low (drop (f.number + c.name) base.variables) (omega arith) g.ready;
      };
}
put_wrote f base c v (Some d) k row inside h s =
    let n = f.number + c.name in
    let same = given_names (slice_get k.variables (counted n)) d k in
    let at = scalar_at base f.shape.form in
    let most = bytes_before at c.scalar in
    let b = size_of (at c.scalar) in
    let size = size_of_shape f.shape in
    record {
      variables = same.variables ∙ s.variables;
      structures = same.structures ∙ s.structures;
      good = λ short.
          let g = s.good short in
          let e = ap (λ (vs : List Variable). slice_get vs (counted n)) s.variables ∙ counted_get base.variables n short in
          let there = given_there size most b g.low base.variables n d k (within_scalar (at c.scalar) d h) (λ small. row.room small (suc c.scalar) (omega (arith, inside))) g.ready g.fit in
          let r = subst (λ (o : Option Variable). Given size (most + b) g.low (drop n base.variables) (option_map_or (λ v. given_in v.region d k) o k)) (sym e) there in
          record { fit = r.fit; low = g.low; ready = r.ready };
    }

advance : (f : FillingR) (base : Known) (c : Cursor) (scalars : ℕ) (k : Known)
    → ShapeFits base f.shape → scalars ≡ scalars_in_name base f.shape → Wrote f base c k → Filled f base (cursor_after scalars c) k
advance f base c scalars k row e s = cases (nat_lt (counted (c.scalar + 1)) scalars) refl
  where
    cases : (b : Bool) → nat_lt (counted (c.scalar + 1)) scalars ≡ b → Filled f base (cond b (record { name = c.name; scalar = counted (c.scalar + 1) }) (record { name = c.name + 1; scalar = 0 })) k
    cases true t =
        let l : counted (c.scalar + 1) < scalars = grind (arith, nat_tests) in
        let up = row.counted_up in
        let next : counted (c.scalar + 1) ≡ suc c.scalar = omega (arith, l, e, up) in
        record {
          variables = s.variables;
          structures = s.structures;
          good = λ short. let g = s.good short in record {
            fit = g.fit;
            low = g.low;
            ready = subst (λ (i : ℕ). Ready k.objects (size_of_shape f.shape) (bytes_before (scalar_at base f.shape.form) i) g.low (drop (f.number + c.name) base.variables)) (sym next) g.ready;
          };
        }
    cases false t = record {
      variables = s.variables;
      structures = s.structures;
      good = λ short.
          let g = s.good short in
          let r = ready_next k.objects (size_of_shape f.shape) (bytes_before (scalar_at base f.shape.form) (suc c.scalar)) g.low base.variables (f.number + c.name) g.ready in
          let next : suc (f.number + c.name) ≡ f.number + (c.name + 1) = omega arith in
          record {
            fit = g.fit;
            low = r.0;
            ready = subst (λ (i : ℕ). Ready k.objects (size_of_shape f.shape) 0 r.0 (drop i base.variables)) next r.1;
          };
    }

too_many_same : (v : Option VariableT) (k : Known) → SameTables k (too_many v k)
too_many_same None k = same_tables k
too_many_same (Some v) k = record { variables = refl; structures = refl; objects = refl }

-- a name that is at the cursor has a scalar there
where_some : (b : Bool) (v : Option VariableT) → is_some (cond b v None) ≡ true → b ≡ true
where_some true v h = refl
where_some false v h = h

inside_name : (f : FillingR) (base : Known) (c : Cursor) (k : Known) → k.structures ≡ base.structures → is_some (name_at f c k) ≡ true → c.scalar < scalars_in_name base f.shape
inside_name f base c k e h =
    let t = where_some (nat_lt c.scalar (scalars_in_name k f.shape)) (slice_get f.names c.name) h in
    let here : c.scalar < scalars_in_name k f.shape = grind (arith, nat_tests) in
    omega (arith, here, scalars_in_name_still base k f.shape e)

put_fills : (f : FillingR) (base : Known) (c : Cursor) (v : Option VariableT) (s : ScalarType) (d : Option Datum) (k : Known)
    → ShapeFits base f.shape → (is_some v ≡ true → c.scalar < scalars_in_name base f.shape) → s ≡ scalar_at base f.shape.form c.scalar → maybe (datum_fits s) d ≡ true → Filled f base c k
    → Filled f base (put_at f c v d k).0 (put_at f c v d k).1
put_fills f base c None s d k row inside e h g = extended g (extends (too_many_same (slice_get f.names (length f.names - 1)) k))
put_fills f base c (Some v) s d k row inside e h g =
    let q = put_datum f c.name v d k in
    let wrote = put_wrote f base c v d k row (inside refl) (subst (λ (t : ScalarType). maybe (datum_fits t) d ≡ true) e h) g in
    advance f base c (scalars_in_name q f.shape) q row (scalars_in_name_still base q f.shape wrote.structures) wrote

past_same : (f : FillingR) (v : Option VariableT) (k : Known) → SameTables k (past_at f v k)
past_same f None k = too_many_same (slice_get f.names (length f.names - 1)) k
past_same f (Some v) k = same_tables k

characters_fill : (f : FillingR) (base : Known) (c : Cursor) (xs : List ℕ) (k : Known) → ShapeFits base f.shape → Filled f base c k
    → Filled f base (put_characters f c xs k).0 (put_characters f c xs k).1
characters_fill f base c [] k row g = g
characters_fill f base c (x ∷ xs) k row g =
    let s = scalar_at k f.shape.form c.scalar in
    let r = put_value f c (character_datum s x) k in
    characters_fill f base r.0 xs r.1 row
    (put_fills f base c (name_at f c k) s (character_datum s x) k row (inside_name f base c k g.structures) (scalar_still base k f.shape.form c.scalar g.structures) (character_fits s x) g)

single_fills : (frames : List Frame) (f : FillingR) (base : Known) (c : Cursor) (v : ValueT) (k : Known) → ShapeFits base f.shape → Filled f base c k
    → Filled f base (put_single frames f c v k).0 (put_single frames f c v k).1
single_fills frames f base c v k row g =
    let s = scalar_at k f.shape.form c.scalar in
    let d = datum_for frames s v k in
    let there = extended g (datum_extends frames s v k) in
    put_fills f base c (name_at f c d.1) s d.0 d.1 row (inside_name f base c d.1 there.structures) (scalar_still base k f.shape.form c.scalar g.structures) (value_fits frames s v k) there

where_filled : (f : FillingR) (base : Known) (b : Bool) (x y : Cursor × Known) → Filled f base x.0 x.1 → Filled f base y.0 y.1 → Filled f base (cond b x y).0 (cond b x y).1
where_filled f base true x y p q = p
where_filled f base false x y p q = q

value_fills : (frames : List Frame) (f : FillingR) (base : Known) (c : Cursor) (v : ValueT) (k : Known) → ShapeFits base f.shape → Filled f base c k
    → Filled f base (filled_with frames f c v k).0 (filled_with frames f c v k).1
value_fills frames f base c (NumeralV n) k row g = single_fills frames f base c (NumeralV n) k row g
value_fills frames f base c (NegativeV n) k row g = single_fills frames f base c (NegativeV n) k row g
value_fills frames f base c (TextV s) k row g =
    where_filled f base (is_byte (scalar_at k f.shape.form c.scalar)) _ _
    (characters_fill f base c (string_characters s.text) (unless_past f c k) row (extended g (extends (past_same f (name_at f c k) k))))
    (single_fills frames f base c (TextV s) k row g)
value_fills frames f base c (LocationV l) k row g = single_fills frames f base c (LocationV l) k row g

values_fill : (frames : List Frame) (f : FillingR) (base : Known) (c : Cursor) (vs : List ValueT) (k : Known) → ShapeFits base f.shape → Filled f base c k
    → Filled f base (filled_from frames f c vs k).0 (filled_from frames f c vs k).1
values_fill frames f base c [] k row g = g
values_fill frames f base c (v ∷ vs) k row g = let r = filled_with frames f c v k in values_fill frames f base r.0 vs r.1 row (value_fills frames f base c v k row g)

-- ---- all values of an element

-- they fill no variables
datum_names : (f : FillingR) (name : ℕ) (v : VariableT) (d : Option Datum) (k : Known) → (put_datum f name v d k).variables ≡ k.variables
datum_names f name v (Some d) k = (given_names (slice_get k.variables (counted (f.number + name))) d k).variables
datum_names f name v None k = refl

put_names : (f : FillingR) (c : Cursor) (v : Option VariableT) (d : Option Datum) (k : Known) → (put_at f c v d k).1.variables ≡ k.variables
put_names f c None d k = (too_many_same (slice_get f.names (length f.names - 1)) k).variables
put_names f c (Some v) d k = datum_names f c.name v d k

characters_names : (f : FillingR) (c : Cursor) (xs : List ℕ) (k : Known) → (put_characters f c xs k).1.variables ≡ k.variables
characters_names f c [] k = refl
characters_names f c (x ∷ xs) k =
    let d = character_datum (scalar_at k f.shape.form c.scalar) x in
    let r = put_value f c d k in
    characters_names f r.0 xs r.1 ∙ put_names f c (name_at f c k) d k

single_names : (frames : List Frame) (f : FillingR) (c : Cursor) (v : ValueT) (k : Known) → (put_single frames f c v k).1.variables ≡ k.variables
single_names frames f c v k =
    let s = scalar_at k f.shape.form c.scalar in
    let d = datum_for frames s v k in
    put_names f c (name_at f c d.1) d.0 d.1 ∙ (datum_extends frames s v k).variables

where_names : (b : Bool) (x y : Cursor × Known) (vs : List Variable) → x.1.variables ≡ vs → y.1.variables ≡ vs → (cond b x y).1.variables ≡ vs
where_names true x y vs p q = p
where_names false x y vs p q = q

value_names : (frames : List Frame) (f : FillingR) (c : Cursor) (v : ValueT) (k : Known) → (filled_with frames f c v k).1.variables ≡ k.variables
value_names frames f c (NumeralV n) k = single_names frames f c (NumeralV n) k
value_names frames f c (NegativeV n) k = single_names frames f c (NegativeV n) k
value_names frames f c (TextV s) k =
    where_names (is_byte (scalar_at k f.shape.form c.scalar)) _ _ k.variables
    (characters_names f c (string_characters s.text) (unless_past f c k) ∙ (past_same f (name_at f c k) k).variables) (single_names frames f c (TextV s) k)
value_names frames f c (LocationV l) k = single_names frames f c (LocationV l) k

pub values_names : (frames : List Frame) (f : FillingR) (c : Cursor) (vs : List ValueT) (k : Known) → (filled_from frames f c vs k).1.variables ≡ k.variables
values_names frames f c [] k = refl
values_names frames f c (v ∷ vs) k = let r = filled_with frames f c v k in values_names frames f r.0 vs r.1 ∙ value_names frames f c v k

pub filled_fits : (frames : List Frame) (f : FillingR) (vs : List ValueT) (k : Known) → ShapeFits k f.shape → list_all fits k.objects ≡ true
    → ((l : ℕ) × Pending k.objects (size_of_shape f.shape) l (drop f.number k.variables))
    → length k.variables < 18446744073709551616 → list_all fits (filled frames f vs k).objects ≡ true
filled_fits frames f vs k row fit p short =
    let begin : Cursor = record { name = 0; scalar = 0 } in
    let here : f.number ≡ f.number + 0 = omega arith in
    let ready = subst (λ (i : ℕ). Ready k.objects (size_of_shape f.shape) 0 p.0 (drop i k.variables)) here (ready_first k.objects (size_of_shape f.shape) p.0 (drop f.number k.variables) p.1) in
    let start : Filled f k begin k = record { variables = refl; structures = refl; good = λ h. record { fit = fit; low = p.0; ready = ready } } in
    ((values_fill frames f k begin vs k row start).good short).fit
