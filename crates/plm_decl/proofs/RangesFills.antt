-- Initial values are within the final counts.
use Rattle.std.proofs.Common.{◌≡◌, ℕ, ◌+◌, ◌-◌, List, [], ◌∷◌, length, Bool, true, false, ◌&&◌, not, cond, Option, Some, None, nat_lt, nat_le, ◌≤◌, subst, refl}
use Rattle.std.proofs.lemmas.Bool.{and_parts}
use Rattle.std.specs.Prelude.{slice_get}
use Rattle.std.specs.Option.{option_map_or}
use Rattle.std.proofs.lemmas.List.{length-set}
use Rattle.word86.specs.declared.number.Number.TheVariants.{E305}
use Rattle.plm_token.specs.Strings.{string_characters}
use Rattle.plm_syntax.specs.declared.tree.Position.{Position}
use Rattle.plm_syntax.specs.Tree.{VariableT, ValueT, NumeralV, NegativeV, TextV, LocationV, LocationT, ElementT, LiteralElement, VariableElement, AttributesT, DimensionT, TypeT}
use Rattle.plm_decl.specs.declared.layout.ScalarType.{ScalarType}
use Rattle.plm_decl.specs.declared.layout.ScalarType.TheVariants.{Byte, Word, Pointer, Integer}
use Rattle.plm_decl.specs.declared.names.Datum.{Datum}
use Rattle.plm_decl.specs.declared.names.Datum.TheVariants as datum
use Rattle.plm_decl.specs.declared.names.Region.{Region}
use Rattle.plm_decl.specs.declared.names.Region.TheVariants as region
use Rattle.plm_decl.specs.declared.names.Variable.{Variable}
use Rattle.plm_decl.specs.declared.resolved.Binding.TheVariants as binding
use Rattle.plm_decl.specs.declared.fill.Cursor.{Cursor}
use Rattle.plm_decl.specs.Layout.{counted}
use Rattle.plm_decl.specs.Scope.{Frame}
use Rattle.plm_decl.specs.Resolver.{Known}
use Rattle.plm_decl.specs.Names.{ObjectR}
use Rattle.plm_decl.specs.Resolved.{LocationR', LocationOf, ConstantsOf, ReferenceR', Use}
use Rattle.plm_decl.specs.Datum.{number_datum, text_datum, word_datum, character_datum, is_byte, takes}
use Rattle.plm_decl.specs.Expressions.{location}
use Rattle.plm_decl.specs.Shape.{scalar_at, shape_for}
use Rattle.plm_decl.specs.Sites.{distance, first_site}
use Rattle.plm_decl.specs.Elements.{declared_variables, declared_list, place_of_variable}
use Rattle.plm_decl.specs.Attributes.{element_values, has_values, is_placed, traits_for}
use Rattle.plm_decl.specs.Fill.{address_at, address_datum, variable_datum, reference_datum, location_datum, form_of_location, location_in, datum_for, FillingR, with_datum, given_at, given_in, put_datum, too_many, name_at, put_at, put_value, past_at, unless_past, put_characters, put_single, filled_with, filled_from, filled_element, declared_at, declared_names, element}
use Rattle.plm_decl.specs.Ranges.{Counts, datum_within, object_within, expressions_within, selector_within, reference_within, location_within}
use Rattle.plm_decl.specs.Inner.Ranges.{Within}
use Rattle.plm_decl.proofs.Kept.{Ends, Kept, Reads, Declares, reads, reads_then, declares_none, kept, kept_then, frames_within, note_kept, note_unless_kept, all_pushed, all_set, maybe, got, maybe_unless}
use Rattle.plm_decl.proofs.Lying.{set_lie}
use Rattle.plm_decl.proofs.RangesExpressions.{location_kept, location_is_within}
use Rattle.plm_decl.proofs.RangesShapes.{shape_kept, shape_is_within}
use Rattle.plm_decl.proofs.RangesElements.{first_reads, first_within, declared_variables_ends, declared_variables_within}

-- ---- locations

address_at_within : (c : Counts) (n : ℕ) (d : Option ℕ) → nat_lt n c.variables ≡ true → maybe (datum_within c) (address_at n d) ≡ true
address_at_within c n None h = refl
address_at_within c n (Some d) h = h

address_within : (c : Counts) (n : ℕ) (r : Region) (d : Option ℕ) → nat_lt n c.variables ≡ true → maybe (datum_within c) (address_datum n r d) ≡ true
address_within c n (region.Ram o x) d h = address_at_within c n d h
address_within c n (region.Screen page x) d h = address_at_within c n d h
address_within c n (region.Based v) d h = refl
address_within c n region.Nowhere d h = address_at_within c n d h

variable_datum_within : (c : Counts) (n : ℕ) (v : Option Variable) (d : Option ℕ) → nat_lt n c.variables ≡ true → maybe (datum_within c) (variable_datum n v d) ≡ true
variable_datum_within c n None d h = refl
variable_datum_within c n (Some v) d h = address_within c n v.region d h

reference_datum_within : (c : Counts) (k : Known) (x : ReferenceR') → reference_within c x ≡ true → maybe (datum_within c) (reference_datum k x) ≡ true
reference_datum_within c k (Use p (binding.Variable n) es s) h =
    variable_datum_within c n (slice_get k.variables n) (distance k (Use p (binding.Variable n) es s)) (and_parts (nat_lt n c.variables) (expressions_within c es && selector_within c s) h).0
reference_datum_within c k (Use p (binding.Procedure q) es s) h = refl
reference_datum_within c k (Use p (binding.Builtin b) es s) h = refl
reference_datum_within c k (Use p binding.Nothing es s) h = refl

location_datum_within : (c : Counts) (k : Known) (l : LocationR') → location_within c l ≡ true → maybe (datum_within c) (location_datum k l) ≡ true
location_datum_within c k (LocationOf p f x) h = reference_datum_within c k x h
location_datum_within c k (ConstantsOf p f o) h = h

location_in_reads : (c : Counts) (frames : List Frame) (s : ScalarType) (l : LocationT) (k : Known) → Reads c frames k (location_in frames s l k).1
location_in_reads c frames s l k =
    let r = location frames l k in
    let here = location_kept c frames l k in
    record {
      ends = λ e. here.ends e;
      within = λ h e w. let v = here.within e w in (v.0, v.1, v.2, all_pushed _ r.1.locations _ v.3 (location_is_within c frames l k h e), v.4, v.5, v.6, v.7);
    }

location_in_within : (c : Counts) (frames : List Frame) (s : ScalarType) (l : LocationT) (k : Known) → frames_within c frames ≡ true → Ends c (location_in frames s l k).1 → maybe (datum_within c) (location_in frames s l k).0 ≡ true
location_in_within c frames s l k h e =
    let r = location frames l k in
    maybe_unless (datum_within c) (takes s (form_of_location l)) (location_datum r.1 r.0) (location_datum_within c r.1 r.0 (location_is_within c frames l k h e))

-- ---- one value in one scalar

number_byte : (c : Counts) (b : Bool) (n : ℕ) → maybe (datum_within c) (cond b (Some (datum.Byte n)) None) ≡ true
number_byte c true n = refl
number_byte c false n = refl

number_word : (c : Counts) (b : Bool) (n : ℕ) → maybe (datum_within c) (cond b (Some (datum.Word n)) None) ≡ true
number_word c true n = refl
number_word c false n = refl

number_within : (c : Counts) (s : ScalarType) (n : ℕ) (negative : Bool) → maybe (datum_within c) (number_datum s n negative) ≡ true
number_within c Byte n negative = number_byte c (nat_lt n 256) _
number_within c Word n negative = number_word c (nat_lt n 65536) _
number_within c Pointer n negative = refl
number_within c Integer n negative = number_word c (nat_le n (cond negative 32768 32767)) _

word_within : (c : Counts) (xs : List ℕ) → maybe (datum_within c) (word_datum xs) ≡ true
word_within c [] = refl
word_within c (low ∷ []) = refl
word_within c (high ∷ low ∷ []) = refl
word_within c (x ∷ y ∷ z ∷ more) = refl

text_within : (c : Counts) (s : ScalarType) (xs : List ℕ) → maybe (datum_within c) (text_datum s xs) ≡ true
text_within c Byte xs = refl
text_within c Word xs = word_within c xs
text_within c Pointer xs = refl
text_within c Integer xs = refl

character_within : (c : Counts) (s : ScalarType) (x : ℕ) → maybe (datum_within c) (character_datum s x) ≡ true
character_within c Byte x = refl
character_within c Word x = refl
character_within c Pointer x = refl
character_within c Integer x = refl

datum_reads : (c : Counts) (frames : List Frame) (s : ScalarType) (v : ValueT) (k : Known) → Reads c frames k (datum_for frames s v k).1
datum_reads c frames s (NumeralV n) k = reads (kept c k)
datum_reads c frames s (NegativeV n) k = reads (kept c k)
datum_reads c frames s (TextV t) k = reads (kept c k)
datum_reads c frames s (LocationV l) k = location_in_reads c frames s l k

datum_is_within : (c : Counts) (frames : List Frame) (s : ScalarType) (v : ValueT) (k : Known) → frames_within c frames ≡ true → Ends c (datum_for frames s v k).1 → maybe (datum_within c) (datum_for frames s v k).0 ≡ true
datum_is_within c frames s (NumeralV n) k h e = number_within c s n.value false
datum_is_within c frames s (NegativeV n) k h e = number_within c s n.value true
datum_is_within c frames s (TextV t) k h e = text_within c s (string_characters t.text)
datum_is_within c frames s (LocationV l) k h e = location_in_within c frames s l k h e

-- ---- filling

given_at_ends : (c : Counts) (o : ℕ) (d : Datum) (at : Option ObjectR) (k : Known) → Ends c (given_at o d at k) → Ends c k
given_at_ends c o d None k e = e
given_at_ends c o d (Some x) k e = (e.0, e.1, subst (λ n. n ≤ c.objects) (length-set k.objects o (with_datum d x)) e.2, e.3, e.4)

given_at_within : (c : Counts) (o : ℕ) (d : Datum) (at : Option ObjectR) (k : Known) → slice_get k.objects o ≡ at → datum_within c d ≡ true → maybe (object_within c) at ≡ true → Within c k → Within c (given_at o d at k)
given_at_within c o d None k is h g w = w
given_at_within c o d (Some x) k is h g w = (w.0, all_set (object_within c) k.objects o (with_datum d x) w.1 (all_pushed (datum_within c) x.initial d g h), w.2, w.3, w.4, w.5, w.6, set_lie k.objects o x (with_datum d x) k.variables is refl w.7)

given_in_ends : (c : Counts) (r : Region) (d : Datum) (k : Known) → Ends c (given_in r d k) → Ends c k
given_in_ends c (region.Ram o x) d k e = given_at_ends c o d (slice_get k.objects o) k e
given_in_ends c (region.Screen page x) d k e = e
given_in_ends c (region.Based v) d k e = e
given_in_ends c region.Nowhere d k e = e

given_in_within : (c : Counts) (r : Region) (d : Datum) (k : Known) → datum_within c d ≡ true → Within c k → Within c (given_in r d k)
given_in_within c (region.Ram o x) d k h w = given_at_within c o d (slice_get k.objects o) k refl h (got (object_within c) k.objects o w.1) w
given_in_within c (region.Screen page x) d k h w = w
given_in_within c (region.Based v) d k h w = w
given_in_within c region.Nowhere d k h w = w

given_ends : (c : Counts) (v : Option Variable) (d : Datum) (k : Known) → Ends c (option_map_or (λ v. given_in v.region d k) v k) → Ends c k
given_ends c None d k e = e
given_ends c (Some v) d k e = given_in_ends c v.region d k e

given_within : (c : Counts) (v : Option Variable) (d : Datum) (k : Known) → datum_within c d ≡ true → Within c k → Within c (option_map_or (λ v. given_in v.region d k) v k)
given_within c None d k h w = w
given_within c (Some v) d k h w = given_in_within c v.region d k h w

put_datum_ends : (c : Counts) (f : FillingR) (name : ℕ) (v : VariableT) (d : Option Datum) (k : Known) → Ends c (put_datum f name v d k) → Ends c k
put_datum_ends c f name v (Some d) k e = given_ends c (slice_get k.variables (counted (f.number + name))) d k e
put_datum_ends c f name v None k e = (note_kept c E305 (place_of_variable v) k).ends e

put_datum_within : (c : Counts) (f : FillingR) (name : ℕ) (v : VariableT) (d : Option Datum) (k : Known)
    → maybe (datum_within c) d ≡ true → Ends c (put_datum f name v d k) → Within c k → Within c (put_datum f name v d k)
put_datum_within c f name v (Some d) k h e w = given_within c (slice_get k.variables (counted (f.number + name))) d k h w
put_datum_within c f name v None k h e w = (note_kept c E305 (place_of_variable v) k).within e w

too_many_kept : (c : Counts) (v : Option VariableT) (k : Known) → Kept c k (too_many v k)
too_many_kept c None k = kept c k
too_many_kept c (Some v) k = note_kept c E305 (place_of_variable v) k

put_at_ends : (c : Counts) (f : FillingR) (at : Cursor) (v : Option VariableT) (d : Option Datum) (k : Known) → Ends c (put_at f at v d k).1 → Ends c k
put_at_ends c f at None d k e = (too_many_kept c (slice_get f.names (length f.names - 1)) k).ends e
put_at_ends c f at (Some v) d k e = put_datum_ends c f at.name v d k e

put_at_within : (c : Counts) (f : FillingR) (at : Cursor) (v : Option VariableT) (d : Option Datum) (k : Known)
    → maybe (datum_within c) d ≡ true → Ends c (put_at f at v d k).1 → Within c k → Within c (put_at f at v d k).1
put_at_within c f at None d k h e w = (too_many_kept c (slice_get f.names (length f.names - 1)) k).within e w
put_at_within c f at (Some v) d k h e w = put_datum_within c f at.name v d k h e w

past_kept : (c : Counts) (f : FillingR) (v : Option VariableT) (k : Known) → Kept c k (past_at f v k)
past_kept c f None k = too_many_kept c (slice_get f.names (length f.names - 1)) k
past_kept c f (Some v) k = kept c k

put_characters_kept : (c : Counts) (f : FillingR) (at : Cursor) (xs : List ℕ) (k : Known) → Kept c k (put_characters f at xs k).1
put_characters_kept c f at [] k = kept c k
put_characters_kept c f at (x ∷ xs) k =
    let d = character_datum (scalar_at k f.shape.form at.scalar) x in
    let v = name_at f at k in
    let r = put_value f at d k in
    let one : Kept c k r.1 = record { ends = λ e. put_at_ends c f at v d k e; within = λ e w. put_at_within c f at v d k (character_within c (scalar_at k f.shape.form at.scalar) x) e w } in
    kept_then one (put_characters_kept c f r.0 xs r.1)

put_single_reads : (c : Counts) (frames : List Frame) (f : FillingR) (at : Cursor) (v : ValueT) (k : Known) → Reads c frames k (put_single frames f at v k).1
put_single_reads c frames f at v k =
    let s = scalar_at k f.shape.form at.scalar in
    let d = datum_for frames s v k in
    let n = name_at f at d.1 in
    let here = datum_reads c frames s v k in
    record {
      ends = λ e. here.ends (put_at_ends c f at n d.0 d.1 e);
      within = λ h e w.
          let before = put_at_ends c f at n d.0 d.1 e in
          put_at_within c f at n d.0 d.1 (datum_is_within c frames s v k h before) e (here.within h before w);
    }

where_reads : (c : Counts) (frames : List Frame) (b : Bool) (k : Known) (x y : Cursor × Known) → Reads c frames k x.1 → Reads c frames k y.1 → Reads c frames k (cond b x y).1
where_reads c frames true k x y p q = p
where_reads c frames false k x y p q = q

filled_with_reads : (c : Counts) (frames : List Frame) (f : FillingR) (at : Cursor) (v : ValueT) (k : Known) → Reads c frames k (filled_with frames f at v k).1
filled_with_reads c frames f at (NumeralV n) k = put_single_reads c frames f at (NumeralV n) k
filled_with_reads c frames f at (NegativeV n) k = put_single_reads c frames f at (NegativeV n) k
filled_with_reads c frames f at (TextV s) k =
    where_reads c frames (is_byte (scalar_at k f.shape.form at.scalar)) k _ _ (reads (kept_then (past_kept c f (name_at f at k) k) (put_characters_kept c f at (string_characters s.text) (unless_past f at k)))) (put_single_reads c frames f at (TextV s) k)
filled_with_reads c frames f at (LocationV l) k = put_single_reads c frames f at (LocationV l) k

filled_from_reads : (c : Counts) (frames : List Frame) (f : FillingR) (at : Cursor) (vs : List ValueT) (k : Known) → Reads c frames k (filled_from frames f at vs k).1
filled_from_reads c frames f at [] k = reads (kept c k)
filled_from_reads c frames f at (v ∷ vs) k = let r = filled_with frames f at v k in reads_then (filled_with_reads c frames f at v k) (filled_from_reads c frames f r.0 vs r.1)

unless_reads : (c : Counts) (frames : List Frame) (b : Bool) (k x y : Known) → Reads c frames k x → Reads c frames k y → Reads c frames k (cond b x y)
unless_reads c frames true k x y p q = p
unless_reads c frames false k x y p q = q

filled_element_reads : (c : Counts) (f : FillingR) (p : Position) (a : AttributesT) (frames : List Frame) (k : Known) → Reads c frames k (filled_element f p a frames k)
filled_element_reads c f p a frames k =
    unless_reads c frames (is_placed a) k _ _ (reads (note_unless_kept c (not (has_values a)) E305 p k)) (filled_from_reads c frames f (record { name = 0; scalar = 0 }) (element_values a) k)

-- ---- an element

declared_at_declares : (c : Counts) (p : Position) (vs : List VariableT) (d : DimensionT) (t : TypeT) (a : AttributesT) (frames : List Frame) (k : Known)
    → Declares c frames k (declared_at p vs d t a frames k).0 (declared_at p vs d t a frames k).1
declared_at_declares c p vs d t a frames k =
    let s = first_site frames a k in
    let h = shape_for p (length vs) d t (element_values a) s.1 in
    let ts = traits_for h.0 a in
    let r = declared_variables vs ts s.0 frames h.1 in
    let f : FillingR = record { names = vs; shape = h.0; number = length h.1.variables } in
    let placed = first_reads c frames a k in
    let shaped = shape_kept c p (length vs) d t (element_values a) s.1 in
    let full = filled_element_reads c f p a r.1 r.2 in
    record {
      ends = λ e. placed.ends (shaped.ends (declared_variables_ends c vs ts s.0 frames h.1 (full.ends e)));
      within = λ l e w.
          let e2 = full.ends e in
          let e1 = declared_variables_ends c vs ts s.0 frames h.1 e2 in
          let e0 = shaped.ends e1 in
          let done = declared_variables_within c vs ts s.0 frames h.1 (shape_is_within c p (length vs) d t (element_values a) s.1 e1)
          (first_within c frames a k e0 w) l e2 (shaped.within e1 (placed.within l e0 w)) in
          (full.within done.1 e done.0, done.1);
    }

declared_names_declare : (c : Counts) (vs : List VariableT) (d : DimensionT) (t : TypeT) (a : AttributesT) (frames : List Frame) (k : Known)
    → Declares c frames k (declared_names vs d t a frames k).0 (declared_names vs d t a frames k).1
declared_names_declare c [] d t a frames k = declares_none c frames k
declared_names_declare c (v ∷ vs) d t a frames k = declared_at_declares c (place_of_variable v) (v ∷ vs) d t a frames k

pub element_declares : (c : Counts) (x : ElementT) (frames : List Frame) (k : Known) → Declares c frames k (element x frames k).0 (element x frames k).1
element_declares c (LiteralElement n s) frames k = declares_none c frames k
element_declares c (VariableElement d n t a) frames k = declared_names_declare c (declared_list d) n t a frames k
