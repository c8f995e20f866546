-- Names that have objects of their own have one each, all through a program.
use Rattle.std.proofs.Common.{◌≡◌, ℕ, zero, suc, ◌+◌, ◌-◌, ◌<◌, ◌≤◌, List, [], ◌∷◌, ◌++◌, map, length, Bool, true, false, ◌&&◌, ◌||◌, not, cond, Option, Some, None, nat_eq, nat_le, arith, refl, sym, ap, subst, ◌∙◌}
use Rattle.std.specs.Prelude.{slice_get, slice_set, slice_index}
use Rattle.std.specs.List.{AllPairs}
use Rattle.std.specs.Option.{option_map_or}
use Rattle.std.proofs.lemmas.List.{append-nil, append_assoc, map-append, length-append, length-set}
use Rattle.std.proofs.lemmas.List.Kept.{AllPairs-from_increasing}
use Rattle.word86.specs.declared.number.Number.{Number}
use Rattle.word86.specs.declared.number.Number.TheVariants.{E301, E302, E303, E304, E305, E308}
use Rattle.word86.specs.declared.page.Page.{Page}
use Rattle.word86.specs.Page.{page_size}
use Rattle.plm_token.specs.Names.{normal}
use Rattle.plm_token.specs.Strings.{string_characters}
use Rattle.plm_syntax.specs.declared.tree.Position.{Position}
use Rattle.plm_syntax.specs.declared.tree.Linkage.{Linkage}
use Rattle.plm_syntax.specs.declared.tree.Linkage.TheVariants as linkage
use Rattle.plm_syntax.specs.Terminal.{NameT, NumeralT}
use Rattle.plm_syntax.specs.Tree.{ExpressionT, NumeralE, TextE, ReferenceE, LocationE, ParenthesisedE, EmbeddedE, UnaryE, BinaryE, ReferenceT, ReferenceOf, ExpressionsT, SelectorT, LocationT, ValueT, NumeralV, NegativeV, TextV, LocationV, VariableT, VariableOf, MemberT, TypeT, ScalarType, StructureType, DimensionT, no_dimension, dimension, implicit_dimension, AtT, no_at, at_number, at_location, InitialT, AttributesT, External, Attributes, ElementT, LiteralElement, VariableElement, StatementT, Labelled, BasicT, EmptyS, AssignS, CallS, ReturnS, ReturnValueS, EnableS, DisableS, HaltS, IfS, IfElseS, DoS, WhileS, CaseS, IterateS, StatementsT, BlockT, BlockOf, ItemsT, no_items, items, ItemT, DeclareI, ProcedureI, ModuleT, ModuleOf}
use Rattle.plm_syntax.specs.Tree as tree
use Rattle.plm_decl.specs.declared.found.Found.{Found}
use Rattle.plm_decl.specs.declared.layout.Form.{Form}
use Rattle.plm_decl.specs.declared.layout.ScalarType as layout
use Rattle.plm_decl.specs.declared.names.Datum.{Datum}
use Rattle.plm_decl.specs.declared.names.Region.{Region}
use Rattle.plm_decl.specs.declared.names.Region.TheVariants as region
use Rattle.plm_decl.specs.declared.names.Variable.{Variable}
use Rattle.plm_decl.specs.declared.names.Item.{Item}
use Rattle.plm_decl.specs.declared.names.Item.TheVariants as item
use Rattle.plm_decl.specs.declared.names.Names.{Names}
use Rattle.plm_decl.specs.declared.resolved.Binding.{Binding}
use Rattle.plm_decl.specs.declared.sites.Site.{Site}
use Rattle.plm_decl.specs.declared.sites.Site.TheVariants as site
use Rattle.plm_decl.specs.declared.attributes.Traits.{Traits}
use Rattle.plm_decl.specs.declared.fill.Cursor.{Cursor}
use Rattle.plm_decl.specs.Layout.{StructureR, counted, scalar_of, no_fields, is_dimension}
use Rattle.plm_decl.specs.Spelling.{name_after, constants_after}
use Rattle.plm_decl.specs.Scope.{Entries, Frame, frame, path_in, is_external, is_fresh, found_in, found_here}
use Rattle.plm_decl.specs.Resolver.{Known, ExternalR, note, note_unless, note_whole, nothing_known}
use Rattle.plm_decl.specs.Lists.{name_list, member_list, element_list, value_list, reference_list}
use Rattle.plm_decl.specs.Names.{ObjectR, ProcedureR, is_external_linkage}
use Rattle.plm_decl.specs.Regions.{size_at}
use Rattle.plm_decl.specs.Uses.{used}
use Rattle.plm_decl.specs.Resolved.{ReferencesR, StatementsR, no_references, and_reference}
use Rattle.plm_decl.specs.Expressions.{structure_meant, member_of_structure, member_meant, all_constant_data, are_constants, with_constants, constant_bytes, expression, reference, subscripts, selector, location}
use Rattle.plm_decl.specs.Datum.{is_byte, character_datum}
use Rattle.plm_decl.specs.Shape.{member_names, member_count, member_scalar, number_of_elements, with_member_name, with_member_names, with_members, structure_for, form_for, elements_filled, dimension_for, shape_for, scalar_at, size_of_shape}
use Rattle.plm_decl.specs.Linkage.{start, with_public, linked}
use Rattle.plm_decl.specs.Elements.{base_for, with_screen_name, own_region, region_for, declared, with_variable, variable_in, region_of_variable, with_unplaced, variable_declared, declared_variable, declared_variables, declared_list, place_of_variable}
use Rattle.plm_decl.specs.Sites.{location_site, at_site, first_site, site_after}
use Rattle.plm_decl.specs.Attributes.{linkage_for, element_values, has_values, is_placed, traits_for}
use Rattle.plm_decl.specs.Fill.{location_in, datum_for, FillingR, given_at, given_in, put_datum, too_many, name_at, put_at, put_value, past_at, unless_past, put_characters, put_single, filled_with, filled_from, filled_element, declared_at, declared_names, element}
use Rattle.plm_decl.specs.Statements.{targets_from, step_for, block_path, with_elements, statement, basic, statements as read_statements, block, with_items, with_item}
use Rattle.plm_syntax.specs.Spelling.{last_name}
use Rattle.plm_decl.specs.Procedures.{linkage_of, is_handled, note_handler, header, with_header, declared_procedure, in_place_of, parameter_is, with_parameter, parameter_for, parameters_from, completed_at}
use Rattle.plm_decl.specs.Joins.{region_joined, entry_joined, joined, agree, external_joined, externals_joined, have_room, program_fault, modules_joined, has_statements, with_main, at_module, with_module, modules_from, known_from}
use Rattle.plm_decl.specs.Modules.{AreNames}
use Rattle.plm_decl.specs.OwnNames.{own_name, own_among, is_own, own_in_element, own_in_elements, own_in_block, own_in_items, own_in_item, own_in_statements, own_in_statement, own_in_basic, own_in_module, own_from, where_declared, marked, HaveObjects}
use Rattle.plm_decl.proofs.Objects.{last_got, external_stays}
use Rattle.plm_decl.proofs.OwnNumbers.{AreApart, AreNumbered, IsUnlinked, Grows, grown, variable_unlinked, procedure_unlinked, public_numbered, external_numbered}

-- ---- what declares nothing

-- the same variables, EXTERNAL and PUBLIC names, and not fewer objects and procedures
pub record Still (k q : Known) : Type 0 where
  pub same_module : q.module ≡ k.module
  pub variables : q.variables ≡ k.variables
  pub externals : q.externals ≡ k.externals
  pub publics : q.publics ≡ k.publics
  pub more : length k.objects ≤ length q.objects
  pub procedures : length k.procedures ≤ length q.procedures

still : (k : Known) → Still k k
still k = record { same_module = refl; variables = refl; externals = refl; publics = refl; more = omega arith; procedures = omega arith }

still_then : {k q r : Known} → Still k q → Still q r → Still k r
still_then a b =
    let first = a.more in
    let second = b.more in
    let here = a.procedures in
    let there = b.procedures in
    record {
      same_module = b.same_module ∙ a.same_module;
      variables = b.variables ∙ a.variables;
      externals = b.externals ∙ a.externals;
      publics = b.publics ∙ a.publics;
      more = omega (arith, first, second);
      procedures = omega (arith, here, there);
    }

-- where no object is made either
kept : {k q : Known} → q.module ≡ k.module → q.variables ≡ k.variables → q.externals ≡ k.externals → q.publics ≡ k.publics → length q.objects ≡ length k.objects
    → length q.procedures ≡ length k.procedures → Still k q
kept m v e p o c = record { same_module = m; variables = v; externals = e; publics = p; more = omega (arith, o); procedures = omega (arith, c) }

grows : {k q : Known} → Still k q → Grows k q
grows {k} {q} a =
    let same : length q.variables ≡ length k.variables = ap length a.variables in
    record { variables = omega (arith, same); procedures = a.procedures; externals = a.externals; publics = a.publics }

still_unless : (b : Bool) (k q : Known) → Still k q → Still k (cond b k q)
still_unless true k q h = still k
still_unless false k q h = h

either_still : (b : Bool) (k x y : Known) → Still k x → Still k y → Still k (cond b x y)
either_still true k x y p q = p
either_still false k x y p q = q

note_still : (n : Number) (p : Position) (k : Known) → Still k (note n p k)
note_still n p k = kept refl refl refl refl refl refl

note_whole_still : (f : Found) (k : Known) → Still k (note_whole f k)
note_whole_still f k = kept refl refl refl refl refl refl

note_unless_still : (b : Bool) (n : Number) (p : Position) (k : Known) → Still k (note_unless b n p k)
note_unless_still b n p k = still_unless b k (note n p k) (note_still n p k)

-- ---- expressions

used_still : (frames : List Frame) (n : NameT) (k : Known) → Still k (used frames n k).1
used_still frames n k = note_unless_still _ E301 n.place k

structure_member_still : (s : Option StructureR) (n : NameT) (k : Known) → Still k (member_of_structure s n k).1
structure_member_still None n k = still k
structure_member_still (Some s) n k = note_unless_still _ E301 n.place k

member_still : (m : Binding) (n : NameT) (k : Known) → Still k (member_meant m n k).1
member_still m n k = structure_member_still (structure_meant k m) n k

with_constants_still : (frames : List Frame) (bytes : List Datum) (k : Known) → Still k (with_constants frames bytes k)
with_constants_still frames bytes k =
    let o : ObjectR = record { path = constants_after (path_in frames) (counted (k.constants + 1)); size = length bytes; initial = bytes } in
    let longer = length-append k.objects (o ∷ []) in
    record { same_module = refl; variables = refl; externals = refl; publics = refl; more = omega (arith, longer); procedures = omega arith }

constants_still : (frames : List Frame) (p : Position) (vs : List ValueT) (k : Known) → Still k (constant_bytes frames p vs k).1
constants_still frames p vs k = still_then (note_unless_still (are_constants vs) E305 p k) (with_constants_still frames (all_constant_data vs) (note_unless (are_constants vs) E305 p k))

mutual
  expression_still : (frames : List Frame) (e : ExpressionT) (k : Known) → Still k (expression frames e k).1
  expression_still frames (NumeralE n) k = still k
  expression_still frames (TextE s) k = still k
  expression_still frames (ReferenceE x) k = reference_still frames x k
  expression_still frames (LocationE l) k = location_still frames l k
  expression_still frames (ParenthesisedE p e) k = expression_still frames e k
  expression_still frames (EmbeddedE p x e) k = still_then (reference_still frames x k) (expression_still frames e (reference frames x k).1)
  expression_still frames (UnaryE p o e) k = expression_still frames e k
  expression_still frames (BinaryE p o a b) k = still_then (expression_still frames a k) (expression_still frames b (expression frames a k).1)

  reference_still : (frames : List Frame) (x : ReferenceT) (k : Known) → Still k (reference frames x k).1
  reference_still frames (ReferenceOf n es s) k =
      let m = used frames n k in
      still_then (used_still frames n k) (still_then (subscripts_still frames es m.1) (selector_still frames m.0 s (subscripts frames es m.1).1))

  subscripts_still : (frames : List Frame) (es : ExpressionsT) (k : Known) → Still k (subscripts frames es k).1
  subscripts_still frames tree.no_expressions k = still k
  subscripts_still frames (tree.expressions es e) k = still_then (subscripts_still frames es k) (expression_still frames e (subscripts frames es k).1)

  selector_still : (frames : List Frame) (m : Binding) (s : SelectorT) (k : Known) → Still k (selector frames m s k).1
  selector_still frames m tree.no_member k = still k
  selector_still frames m (tree.member n) k = member_still m n k
  selector_still frames m (tree.member_at n e) k = still_then (member_still m n k) (expression_still frames e (member_meant m n k).1)

  location_still : (frames : List Frame) (l : LocationT) (k : Known) → Still k (location frames l k).1
  location_still frames (tree.LocationOf p f x) k = reference_still frames x k
  location_still frames (tree.ConstantsOf p f vs) k = constants_still frames p (value_list vs) k

-- ---- types

number_still : (p : Position) (n : Option NumeralT) (k : Known) → Still k (number_of_elements p n k).1
number_still p None k = still k
number_still p (Some n) k = note_unless_still (is_dimension n.value) E305 p k

member_names_still : (ns : List NameT) (t : layout.ScalarType) (d : Option ℕ) (s : StructureR) (k : Known) → Still k (with_member_names ns t d s k).1
member_names_still [] t d s k = still k
member_names_still (n ∷ ns) t d s k =
    let r = with_member_name n t d s k in still_then (note_unless_still _ E302 n.place k) (member_names_still ns t d r.0 r.1)

members_still : (p : Position) (ms : List MemberT) (s : StructureR) (k : Known) → Still k (structure_for p ms s k).1
members_still p [] s k = still k
members_still p (m ∷ ms) s k =
    let d = number_of_elements p (member_count m) k in
    let r = with_members p m s k in
    still_then (number_still p (member_count m) k) (still_then (member_names_still (member_names m) (scalar_of (member_scalar m)) d.0 s d.1) (members_still p ms r.0 r.1))

form_still : (p : Position) (t : TypeT) (k : Known) → Still k (form_for p t k).1
form_still p (ScalarType s) k = still k
form_still p (StructureType ms) k =
    let a = members_still p (member_list ms) no_fields k in record { same_module = a.same_module; variables = a.variables; externals = a.externals; publics = a.publics; more = a.more; procedures = a.procedures }

dimension_still : (p : Position) (count : ℕ) (d : DimensionT) (f : Form) (vs : List ValueT) (k : Known) → Still k (dimension_for p count d f vs k).1
dimension_still p count no_dimension f vs k = still k
dimension_still p count (dimension n) f vs k = number_still p (Some n) k
dimension_still p count implicit_dimension f vs k = note_unless_still (nat_eq count 1 && is_dimension (elements_filled k f vs)) E305 p k

pub shape_still : (p : Position) (count : ℕ) (d : DimensionT) (t : TypeT) (vs : List ValueT) (k : Known) → Still k (shape_for p count d t vs k).1
shape_still p count d t vs k = let f = form_for p t k in still_then (form_still p t k) (dimension_still p count d f.0 vs f.1)

-- ---- where names lie

location_site_still : (frames : List Frame) (l : LocationT) (k : Known) → Still k (location_site frames l k).1
location_site_still frames (tree.ConstantsOf p f vs) k = still k
location_site_still frames (tree.LocationOf p f x) k =
    let a = reference_still frames x k in record { same_module = a.same_module; variables = a.variables; externals = a.externals; publics = a.publics; more = a.more; procedures = a.procedures }

pub at_still : (frames : List Frame) (a : AtT) (k : Known) → Still k (at_site frames a k).1
at_still frames no_at k = still k
at_still frames (at_number n) k = still k
at_still frames (at_location l) k = location_site_still frames l k

first_still : (frames : List Frame) (a : AttributesT) (k : Known) → Still k (first_site frames a k).1
first_still frames External k = still k
first_still frames (Attributes public at fill) k = at_still frames at k

base_still : (frames : List Frame) (n base : NameT) (attributed : Bool) (k : Known) → Still k (base_for frames n base attributed k).1
base_still frames n base attributed k = let m = used frames base k in still_then (used_still frames base k) (note_unless_still _ E304 n.place m.1)

object_still : (o : ObjectR) (k : Known) → Still k (record k { objects = k.objects ++ o ∷ [] })
object_still o k = let longer = length-append k.objects (o ∷ []) in record { same_module = refl; variables = refl; externals = refl; publics = refl; more = omega (arith, longer); procedures = omega arith }

own_still : (b : Bool) (o : ObjectR) (k : Known) → Still k (cond {A = Region × Known} b (region.Nowhere, k) (region.Ram (length k.objects) 0, record k { objects = k.objects ++ o ∷ [] })).1
own_still true o k = still k
own_still false o k = object_still o k

screen_name_still : (frames : List Frame) (name : List ℕ) (size : ℕ) (page : Page) (offset : ℕ) (k : Known) → Still k (with_screen_name frames name size page offset k)
screen_name_still frames name size page offset k = still_unless (is_external frames) k _ (kept refl refl refl refl refl refl)

region_still : (frames : List Frame) (n : NameT) (name : List ℕ) (size : ℕ) (s : Site) (k : Known) → Still k (region_for frames n name size s k).1
region_still frames n name size site.Own k = own_still (is_external frames) _ k
region_still frames n name size site.Nowhere k = still k
region_still frames n name size site.Outside k = note_still E303 n.place k
region_still frames n name size (site.Ram object offset) k = note_unless_still (nat_le (counted (offset + size)) (size_at k.objects object)) E303 n.place k
region_still frames n name size (site.Screen page offset) k =
    still_then (note_unless_still (nat_le (counted (offset + size)) page_size) E303 n.place k) (screen_name_still frames name size page offset _)

region_of_still : (frames : List Frame) (n : NameT) (base : Option NameT) (t : Traits) (s : Site) (k : Known) → Still k (region_of_variable frames n base t s k).1
region_of_still frames n (Some base) t s k = base_still frames n base t.has_attribute k
region_of_still frames n None t s k = region_still frames n (normal n.text) (size_of_shape t.shape) s k

declared_still : (n : NameT) (i : Item) (frames : List Frame) (k : Known) → Still k (declared n i frames k).1
declared_still n i frames k = note_unless_still (is_fresh (normal n.text) frames) E302 n.place k

-- ---- initial values

location_in_still : (frames : List Frame) (s : layout.ScalarType) (l : LocationT) (k : Known) → Still k (location_in frames s l k).1
location_in_still frames s l k = let a = location_still frames l k in record { same_module = a.same_module; variables = a.variables; externals = a.externals; publics = a.publics; more = a.more; procedures = a.procedures }

datum_still : (frames : List Frame) (s : layout.ScalarType) (v : ValueT) (k : Known) → Still k (datum_for frames s v k).1
datum_still frames s (NumeralV n) k = still k
datum_still frames s (NegativeV n) k = still k
datum_still frames s (TextV t) k = still k
datum_still frames s (LocationV l) k = location_in_still frames s l k

given_at_still : (object : ℕ) (d : Datum) (o : Option ObjectR) (k : Known) → Still k (given_at object d o k)
given_at_still object d None k = still k
given_at_still object d (Some o) k = kept refl refl refl refl (length-set k.objects object _) refl

given_in_still : (r : Region) (d : Datum) (k : Known) → Still k (given_in r d k)
given_in_still (region.Ram o x) d k = given_at_still o d (slice_get k.objects o) k
given_in_still (region.Screen page x) d k = still k
given_in_still (region.Based v) d k = still k
given_in_still region.Nowhere d k = still k

given_still : (v : Option Variable) (d : Datum) (k : Known) → Still k (option_map_or (λ v. given_in v.region d k) v k)
given_still None d k = still k
given_still (Some v) d k = given_in_still v.region d k

put_datum_still : (f : FillingR) (name : ℕ) (v : VariableT) (d : Option Datum) (k : Known) → Still k (put_datum f name v d k)
put_datum_still f name v (Some d) k = given_still (slice_get k.variables (counted (f.number + name))) d k
put_datum_still f name v None k = note_still E305 (place_of_variable v) k

too_many_still : (v : Option VariableT) (k : Known) → Still k (too_many v k)
too_many_still None k = still k
too_many_still (Some v) k = note_still E305 (place_of_variable v) k

put_at_still : (f : FillingR) (c : Cursor) (v : Option VariableT) (d : Option Datum) (k : Known) → Still k (put_at f c v d k).1
put_at_still f c None d k = too_many_still (slice_get f.names (length f.names - 1)) k
put_at_still f c (Some v) d k = put_datum_still f c.name v d k

past_still : (f : FillingR) (v : Option VariableT) (k : Known) → Still k (past_at f v k)
past_still f None k = too_many_still (slice_get f.names (length f.names - 1)) k
past_still f (Some v) k = still k

put_characters_still : (f : FillingR) (c : Cursor) (xs : List ℕ) (k : Known) → Still k (put_characters f c xs k).1
put_characters_still f c [] k = still k
put_characters_still f c (x ∷ xs) k =
    let d = character_datum (scalar_at k f.shape.form c.scalar) x in
    let r = put_value f c d k in
    still_then (put_at_still f c (name_at f c k) d k) (put_characters_still f r.0 xs r.1)

put_single_still : (frames : List Frame) (f : FillingR) (c : Cursor) (v : ValueT) (k : Known) → Still k (put_single frames f c v k).1
put_single_still frames f c v k =
    let s = scalar_at k f.shape.form c.scalar in
    let d = datum_for frames s v k in
    still_then (datum_still frames s v k) (put_at_still f c (name_at f c d.1) d.0 d.1)

either_cursor : (b : Bool) (k : Known) (x y : Cursor × Known) → Still k x.1 → Still k y.1 → Still k (cond b x y).1
either_cursor true k x y p q = p
either_cursor false k x y p q = q

filled_with_still : (frames : List Frame) (f : FillingR) (c : Cursor) (v : ValueT) (k : Known) → Still k (filled_with frames f c v k).1
filled_with_still frames f c (NumeralV n) k = put_single_still frames f c (NumeralV n) k
filled_with_still frames f c (NegativeV n) k = put_single_still frames f c (NegativeV n) k
filled_with_still frames f c (TextV s) k =
    either_cursor (is_byte (scalar_at k f.shape.form c.scalar)) k _ _ (still_then (past_still f (name_at f c k) k) (put_characters_still f c (string_characters s.text) (unless_past f c k)))
    (put_single_still frames f c (TextV s) k)
filled_with_still frames f c (LocationV l) k = put_single_still frames f c (LocationV l) k

filled_from_still : (frames : List Frame) (f : FillingR) (c : Cursor) (vs : List ValueT) (k : Known) → Still k (filled_from frames f c vs k).1
filled_from_still frames f c [] k = still k
filled_from_still frames f c (v ∷ vs) k = let r = filled_with frames f c v k in still_then (filled_with_still frames f c v k) (filled_from_still frames f r.0 vs r.1)

pub filled_still : (f : FillingR) (p : Position) (a : AttributesT) (frames : List Frame) (k : Known) → Still k (filled_element f p a frames k)
filled_still f p a frames k =
    either_still (is_placed a) k _ _ (note_unless_still (not (has_values a)) E305 p k) (filled_from_still frames f (record { name = 0; scalar = 0 }) (element_values a) k)

-- ---- numbers that rise

-- from one number on, and all below another
abbrev Rise : ℕ → List ℕ → ℕ → Type 0
Rise low [] high = low ≤ high
Rise low (o ∷ os) high = (low ≤ o) × Rise (suc o) os high

rise_then : (low : ℕ) (os : List ℕ) (middle : ℕ) (ps : List ℕ) (high : ℕ) → Rise low os middle → Rise middle ps high → Rise low (os ++ ps) high
rise_then low [] middle [] high a b = omega (arith, a, b)
rise_then low [] middle (p ∷ ps) high a b = let first = b.0 in (omega (arith, a, first), b.1)
rise_then low (o ∷ os) middle ps high a b = (a.0, rise_then (suc o) os middle ps high a.1 b)

next_above : (low : ℕ) (os : List ℕ) (high k : ℕ) → Rise low os high → suc k < length os → slice_index os k < slice_index os (suc k)
next_above low [] high k r h = omega (arith, h)
next_above low (o ∷ []) high k r h = omega (arith, h)
next_above low (o ∷ p ∷ os) high zero r h = let above = r.1.0 in omega (arith, above)
next_above low (o ∷ p ∷ os) high (suc k) r h = next_above (suc o) (p ∷ os) high k r.1 (omega (arith, h))

rising : (low : ℕ) (os : List ℕ) (high : ℕ) → Rise low os high → AllPairs (λ a b. a < b) os
rising low os high r = AllPairs-from_increasing os (λ k h.
    let e : k + 1 ≡ suc k = omega arith in
    subst (λ (m : ℕ). slice_index os k < slice_index os m) (sym e) (next_above low os high k r (subst (λ (m : ℕ). m < length os) e h)))

-- ---- marks

marked_both : {X : Type 0} (bs cs : List Bool) (xs ys : List X) → length bs ≡ length xs → marked (bs ++ cs) (xs ++ ys) ≡ marked bs xs ++ marked cs ys
marked_both [] cs [] ys e = refl
marked_both [] cs (x ∷ xs) ys e = cc
marked_both (b ∷ bs) cs [] ys e = cc
marked_both (true ∷ bs) cs (x ∷ xs) ys e = ap (λ zs. x ∷ zs) (marked_both bs cs xs ys (omega (arith, e)))
marked_both (false ∷ bs) cs (x ∷ xs) ys e = marked_both bs cs xs ys (omega (arith, e))

-- what is not marked may change
marked_set : {X : Type 0} (bs : List Bool) (xs : List X) (m : ℕ) (x : X) → slice_get bs m ≡ Some false → marked bs (slice_set xs m x) ≡ marked bs xs
marked_set [] xs m x h = refl
marked_set (b ∷ bs) [] m x h = refl
marked_set (true ∷ bs) (y ∷ ys) zero x h = cc
marked_set (false ∷ bs) (y ∷ ys) zero x h = refl
marked_set (true ∷ bs) (y ∷ ys) (suc m) x h = ap (λ zs. y ∷ zs) (marked_set bs ys m x h)
marked_set (false ∷ bs) (y ∷ ys) (suc m) x h = marked_set bs ys m x h

-- no variable of these is marked
abbrev IsFree : List Bool → Item → Type 0
IsFree marks (item.Variable m) = slice_get marks m ≡ Some false
IsFree marks (item.Procedure p) = Unit {0}

abbrev AreFree : List Bool → List ExternalR → Type 0
AreFree marks [] = Unit {0}
AreFree marks (e ∷ es) = IsFree marks e.item × AreFree marks es

got_before : (bs cs : List Bool) (m : ℕ) → slice_get bs m ≡ Some false → slice_get (bs ++ cs) m ≡ Some false
got_before [] cs m h = cc
got_before (b ∷ bs) cs zero h = h
got_before (b ∷ bs) cs (suc m) h = got_before bs cs m h

free_longer : (bs cs : List Bool) (i : Item) → IsFree bs i → IsFree (bs ++ cs) i
free_longer bs cs (item.Variable m) h = got_before bs cs m h
free_longer bs cs (item.Procedure p) h = tt

all_longer : (bs cs : List Bool) (es : List ExternalR) → AreFree bs es → AreFree (bs ++ cs) es
all_longer bs cs [] h = tt
all_longer bs cs (e ∷ es) h = (free_longer bs cs e.item h.0, all_longer bs cs es h.1)

both_free : (bs : List Bool) (es fs : List ExternalR) → AreFree bs es → AreFree bs fs → AreFree bs (es ++ fs)
both_free bs [] fs a b = b
both_free bs (e ∷ es) fs a b = (a.0, both_free bs es fs a.1 b)

-- ---- what is declared on the way

abbrev regions : List Variable → List Region
regions vs = map (λ (v : Variable). v.region) vs

abbrev objects_from : List ℕ → List Region
objects_from os = map (λ (o : ℕ). region.Ram o 0) os

abbrev places_in : ℕ → List Position → List (ℕ × Position)
places_in number ps = map (λ (p : Position). (number, p)) ps

-- variables, of which those at these places are marked and have objects of their own; no EXTERNAL one is marked
record Adds (rows : List (ℕ × Position)) (k q : Known) : Type 0 where
  added : List Variable
  variables : q.variables ≡ k.variables ++ added
  marks : List Bool
  each : length marks ≡ length added
  objects : List ℕ
  lie : regions (marked marks added) ≡ objects_from objects
  rise : Rise (length k.objects) objects (length q.objects)
  declared : map where_declared (marked marks added) ≡ rows
  further : List ExternalR
  externals : q.externals ≡ k.externals ++ further
  free : (before : List Bool) → length before ≡ length k.variables → AreFree (before ++ marks) further

adds_then : {xs ys : List (ℕ × Position)} {k q r : Known} → Adds xs k q → Adds ys q r → Adds (xs ++ ys) k r
adds_then {xs} {ys} {k} {q} {r} a b =
    let together = marked_both a.marks b.marks a.added b.added a.each in
    let here = a.each in
    let there = b.each in
    let marks_of = length-append a.marks b.marks in
    let added_of = length-append a.added b.added in
    record {
      added = a.added ++ b.added;
      variables = b.variables ∙ ap (λ (vs : List Variable). vs ++ b.added) a.variables ∙ append_assoc k.variables a.added b.added;
      marks = a.marks ++ b.marks;
      each = omega (arith, here, there, marks_of, added_of);
      objects = a.objects ++ b.objects;
      lie = ap regions together
          ∙ map-append (λ (v : Variable). v.region) (marked a.marks a.added) (marked b.marks b.added)
          ∙ (λ j. a.lie j ++ b.lie j)
          ∙ sym (map-append (λ (o : ℕ). region.Ram o 0) a.objects b.objects);
      rise = rise_then (length k.objects) a.objects (length q.objects) b.objects (length r.objects) a.rise b.rise;
      declared = ap (map where_declared) together ∙ map-append where_declared (marked a.marks a.added) (marked b.marks b.added) ∙ (λ j. a.declared j ++ b.declared j);
      further = a.further ++ b.further;
      externals = b.externals ∙ ap (λ (es : List ExternalR). es ++ b.further) a.externals ∙ append_assoc k.externals a.further b.further;
      free = λ before e.
          let longer : length (before ++ a.marks) ≡ length q.variables = length-append before a.marks ∙ (λ j. e j + a.each j) ∙ sym (length-append k.variables a.added) ∙ sym (ap length a.variables) in
          subst (λ (bs : List Bool). AreFree bs (a.further ++ b.further)) (append_assoc before a.marks b.marks)
          (both_free (before ++ a.marks ++ b.marks) a.further b.further (all_longer (before ++ a.marks) b.marks a.further (a.free before e)) (b.free (before ++ a.marks) longer));
    }

-- the same in one module; each declaration gets a number of its own
record Owns (ps : List Position) (k q : Known) : Type 0 where
  same_module : q.module ≡ k.module
  adds : Adds (places_in k.module ps) k q
  numbered : AreNumbered k → AreNumbered q

owns_then : {ps qs : List Position} {k q r : Known} → Owns ps k q → Owns qs q r → Owns (ps ++ qs) k r
owns_then {ps} {qs} {k} {q} {r} a b = record {
  same_module = b.same_module ∙ a.same_module;
  adds = subst (λ (rows : List (ℕ × Position)). Adds rows k r)
      (ap (λ (m : ℕ). places_in k.module ps ++ places_in m qs) a.same_module ∙ sym (map-append (λ (p : Position). (k.module, p)) ps qs))
      (adds_then a.adds b.adds);
  numbered = λ n. b.numbered (a.numbered n);
}

nothing_owned : {k q : Known} → Still k q → Owns [] k q
nothing_owned {k} a = record {
  same_module = a.same_module;
  adds = record {
    added = [];
    variables = a.variables ∙ sym (append-nil k.variables);
    marks = [];
    each = refl;
    objects = [];
    lie = refl;
    rise = a.more;
    declared = refl;
    further = [];
    externals = a.externals ∙ sym (append-nil k.externals);
    free = λ before e. tt;
  };
  numbered = grown (grows a);
}

still_first : {ps : List Position} {k q r : Known} → Still k q → Owns ps q r → Owns ps k r
still_first a b = owns_then (nothing_owned a) b

none_last : {ps : List Position} {k q r : Known} → Owns ps k q → Owns [] q r → Owns ps k r
none_last {ps} {k} {q} {r} a b = subst (λ (xs : List Position). Owns xs k r) (append-nil ps) (owns_then a b)

still_last : {ps : List Position} {k q r : Known} → Owns ps k q → Still q r → Owns ps k r
still_last a b = none_last a (nothing_owned b)

-- ---- linkage

-- an EXTERNAL name more, or none
record Links (i : Item) (k q : Known) : Type 0 where
  same_module : q.module ≡ k.module
  variables : q.variables ≡ k.variables
  objects : length q.objects ≡ length k.objects
  further : List ExternalR
  externals : q.externals ≡ k.externals ++ further
  free : (marks : List Bool) → IsFree marks i → AreFree marks further
  numbered : AreNumbered k → IsUnlinked i k → AreNumbered q

links_none : (i : Item) (k : Known) → Links i k k
links_none i k = record { same_module = refl; variables = refl; objects = refl; further = []; externals = sym (append-nil k.externals); free = λ marks h. tt; numbered = λ n u. n }

links_unless : (b : Bool) (i : Item) (k q : Known) → Links i k q → Links i k (cond b k q)
links_unless true i k q h = links_none i k
links_unless false i k q h = h

public_links : (name : List ℕ) (i : Item) (o : Option Item) (k : Known) → (AreNumbered k → IsUnlinked i k → AreNumbered (with_public name i o k)) → Links i k (with_public name i o k)
public_links name i None k h = record { same_module = refl; variables = refl; objects = refl; further = []; externals = sym (append-nil k.externals); free = λ marks f. tt; numbered = h }
public_links name i (Some first) k h = record { same_module = refl; variables = refl; objects = refl; further = []; externals = sym (append-nil k.externals); free = λ marks f. tt; numbered = h }

linked_links : (frames : List Frame) (l : Linkage) (name : List ℕ) (i : Item) (k : Known) → Links i k (linked frames l name i k)
linked_links frames linkage.None name i k = links_none i k
linked_links frames linkage.Public name i k = links_unless (is_external frames) i k _ (public_links name i (found_in name k.publics) k (public_numbered name i (found_in name k.publics) k))
linked_links frames linkage.External name i k =
    let e : ExternalR = record { name = name; item = i } in
    links_unless (is_external frames) i k _
    (record { same_module = refl; variables = refl; objects = refl; further = e ∷ []; externals = refl; free = λ marks h. (h, tt); numbered = external_numbered name i k })

either_externals : (b : Bool) (k x y : Known) → x.externals ≡ k.externals → y.externals ≡ k.externals → (cond b x y).externals ≡ k.externals
either_externals true k x y f g = f
either_externals false k x y f g = g

public_externals : (name : List ℕ) (i : Item) (o : Option Item) (k : Known) → (with_public name i o k).externals ≡ k.externals
public_externals name i None k = refl
public_externals name i (Some first) k = refl

abbrev IsNear : Linkage → Type 0
IsNear linkage.None = Unit {0}
IsNear linkage.Public = Unit {0}
IsNear linkage.External = ⊥

-- what is not EXTERNAL is not among the EXTERNAL names
near_externals : (frames : List Frame) (l : Linkage) (name : List ℕ) (i : Item) (k : Known) → IsNear l → (linked frames l name i k).externals ≡ k.externals
near_externals frames linkage.None name i k h = refl
near_externals frames linkage.Public name i k h = either_externals (is_external frames) k k _ refl (public_externals name i (found_in name k.publics) k)
near_externals frames linkage.External name i k h = absurd h

-- ---- one name

-- a variable more gets the next number
variable_numbered : (v : Variable) (i : Item) (k q : Known) → i ≡ item.Variable (length k.variables) → q.variables ≡ k.variables ++ v ∷ [] → q.externals ≡ k.externals → q.publics ≡ k.publics
    → length k.procedures ≤ length q.procedures → AreNumbered k → AreNumbered q × IsUnlinked i q
variable_numbered v i k q is vs es ps not_fewer n =
    let longer : length q.variables ≡ length (k.variables ++ v ∷ []) = ap length vs in
    let one = length-append k.variables (v ∷ []) in
    let g : Grows k q = record { variables = omega (arith, longer, one); procedures = not_fewer; externals = es; publics = ps } in
    (grown g n, variable_unlinked i is (omega (arith, longer, one)) g n)

-- a variable without mark, and an EXTERNAL name for it
unmarked : (v : Variable) (i : Item) (k q r : Known) → i ≡ item.Variable (length k.variables) → q.module ≡ k.module → q.variables ≡ k.variables ++ v ∷ [] → q.externals ≡ k.externals
    → q.publics ≡ k.publics → length k.objects ≤ length q.objects → length k.procedures ≤ length q.procedures → Links i q r → Owns [] k r
unmarked v i k q r is m vs es ps more not_fewer l = record {
  same_module = l.same_module ∙ m;
  adds = record {
    added = v ∷ [];
    variables = l.variables ∙ vs;
    marks = false ∷ [];
    each = refl;
    objects = [];
    lie = refl;
    rise = let same = l.objects in omega (arith, more, same);
    declared = refl;
    further = l.further;
    externals = l.externals ∙ ap (λ (xs : List ExternalR). xs ++ l.further) es;
    free = λ before e. l.free (before ++ false ∷ [])
        (subst (λ (x : Item). IsFree (before ++ false ∷ []) x) (sym is) (subst (λ (n : ℕ). slice_get (before ++ false ∷ []) n ≡ Some false) e (last_got before false)));
  };
  numbered = λ n. let u = variable_numbered v i k q is vs es ps not_fewer n in l.numbered u.0 u.1;
}

unplaced_too : {ps : List Position} (b : Bool) (n : ℕ) (k q : Known) → Owns ps k q → Owns ps k (with_unplaced b n q)
unplaced_too b n k q a =
    let x = a.adds in
    record {
      same_module = a.same_module;
      adds = record {
        added = x.added;
        variables = x.variables;
        marks = x.marks;
        each = x.each;
        objects = x.objects;
        lie = x.lie;
        rise = x.rise;
        declared = x.declared;
        further = x.further;
        externals = x.externals;
        free = x.free;
      };
      numbered = λ m. let u = a.numbered m in record { apart = u.apart; externals = u.externals; publics = u.publics };
    }

left_out : (v : VariableT) (t : Traits) (s : Site) (frames : List Frame) (k : Known) → Owns [] k (declared_variable v t s frames k).1
left_out (VariableOf n base) t s frames k =
    let r = region_of_variable frames n base t s k in
    let here = region_of_still frames n base t s k in
    let v = variable_in t n.place r.0 r.1 in
    let i = item.Variable (length r.1.variables) in
    let q = with_variable v r.1 in
    let l = linked frames t.linkage (normal n.text) i q in
    unplaced_too _ _ k _ (still_last
    (unmarked v i k q l (ap (λ (vs : List Variable). item.Variable (length vs)) here.variables) here.same_module (ap (λ (vs : List Variable). vs ++ v ∷ []) here.variables) here.externals
    here.publics here.more here.procedures (linked_links frames t.linkage (normal n.text) i q))
    (declared_still n i frames l))

-- where a name goes that has an object of its own, and what is then known
owned : List Frame → List ℕ → ℕ → Known → Region × Known
owned frames name size k = (region.Ram (length k.objects) 0, record k { objects = k.objects ++ record { path = name_after (path_in frames) name; size = size; initial = [] } ∷ [] })

one_owned : (n : NameT) (t : Traits) (frames : List Frame) (k : Known) → IsNear t.linkage → Owns (n.place ∷ []) k (variable_declared n t (owned frames (normal n.text) (size_of_shape t.shape) k) frames).1
unfolding owned
one_owned n t frames k near =
    let r = owned frames (normal n.text) (size_of_shape t.shape) k in
    let v = variable_in t n.place r.0 r.1 in
    let q = with_variable v r.1 in
    let i = item.Variable (length r.1.variables) in
    let b = linked_links frames t.linkage (normal n.text) i q in
    let d = declared_still n i frames (linked frames t.linkage (normal n.text) i q) in
    let same = b.objects in
    let more = d.more in
    let longer = length-append k.objects (record { path = name_after (path_in frames) (normal n.text); size = size_of_shape t.shape; initial = [] } ∷ []) in
    record {
      same_module = d.same_module ∙ b.same_module;
      adds = record {
        added = v ∷ [];
        variables = d.variables ∙ b.variables;
        marks = true ∷ [];
        each = refl;
        objects = length k.objects ∷ [];
        lie = refl;
        rise = (omega arith, omega (arith, more, same, longer));
        declared = refl;
        further = [];
        externals = d.externals ∙ near_externals frames t.linkage (normal n.text) i q near ∙ sym (append-nil k.externals);
        free = λ before e. tt;
      };
      numbered = λ m. let u = variable_numbered v i k q refl refl refl refl (omega arith) m in grown (grows d) (b.numbered u.0 u.1);
    }

one_own : (v : VariableT) (t : Traits) (frames : List Frame) (k : Known) → is_external frames ≡ false → IsNear t.linkage → Owns (own_name v) k (declared_variable v t site.Own frames k).1
unfolding owned
one_own (VariableOf n (Some base)) t frames k e near = left_out (VariableOf n (Some base)) t site.Own frames k
one_own (VariableOf n None) t frames k e near =
    let is : own_region frames (normal n.text) (size_of_shape t.shape) k ≡ owned frames (normal n.text) (size_of_shape t.shape) k =
    ap (λ (b : Bool). cond b (region.Nowhere, k) (owned frames (normal n.text) (size_of_shape t.shape) k)) e in
    unplaced_too _ _ k _ (subst (λ (r : Region × Known). Owns (n.place ∷ []) k (variable_declared n t r frames).1) (sym is) (one_owned n t frames k near))

-- ---- elements

variable_external : (v : VariableT) (t : Traits) (s : Site) (frames : List Frame) (k : Known) → is_external (declared_variable v t s frames k).0 ≡ is_external frames
variable_external (VariableOf n base) t s frames k = external_stays (normal n.text) _ frames

variables_external : (vs : List VariableT) (t : Traits) (s : Site) (frames : List Frame) (k : Known) → is_external (declared_variables vs t s frames k).1 ≡ is_external frames
variables_external [] t s frames k = refl
variables_external (v ∷ vs) t s frames k =
    let r = declared_variable v t s frames k in variables_external vs t (site_after s (size_of_shape t.shape)) r.0 r.1 ∙ variable_external v t s frames k

names_external : (vs : List VariableT) (d : DimensionT) (t : TypeT) (a : AttributesT) (frames : List Frame) (k : Known) → is_external (declared_names vs d t a frames k).0 ≡ is_external frames
names_external [] d t a frames k = refl
names_external (v ∷ vs) d t a frames k = variables_external (v ∷ vs) _ _ frames _

element_external : (e : ElementT) (frames : List Frame) (k : Known) → is_external (element e frames k).0 ≡ is_external frames
element_external (LiteralElement n s) frames k = refl
element_external (VariableElement d n t a) frames k = names_external (declared_list d) n t a frames k

elements_external : (es : List ElementT) (frames : List Frame) (k : Known) → is_external (with_elements es frames k).0 ≡ is_external frames
elements_external [] frames k = refl
elements_external (e ∷ es) frames k = let r = element e frames k in elements_external es r.0 r.1 ∙ element_external e frames k

item_external : (i : ItemT) (frames : List Frame) (k : Known) → is_external (with_item frames i k).0 ≡ is_external frames
item_external (DeclareI p es) frames k = elements_external (element_list es) frames k
item_external (ProcedureI n ps s i l b e) frames k = external_stays (normal n.text) _ frames

items_external : (is : ItemsT) (frames : List Frame) (k : Known) → is_external (with_items frames is k).0 ≡ is_external frames
items_external no_items frames k = refl
items_external (items is i) frames k = let r = with_items frames is k in item_external i r.0 r.1 ∙ items_external is frames k

all_left : (vs : List VariableT) (t : Traits) (s : Site) (frames : List Frame) (k : Known) → Owns [] k (declared_variables vs t s frames k).2
all_left [] t s frames k = nothing_owned (still k)
all_left (v ∷ vs) t s frames k =
    let r = declared_variable v t s frames k in none_last (left_out v t s frames k) (all_left vs t (site_after s (size_of_shape t.shape)) r.0 r.1)

all_own : (vs : List VariableT) (t : Traits) (frames : List Frame) (k : Known) → is_external frames ≡ false → IsNear t.linkage → Owns (own_among vs) k (declared_variables vs t site.Own frames k).2
all_own [] t frames k e near = nothing_owned (still k)
all_own (v ∷ vs) t frames k e near =
    let r = declared_variable v t site.Own frames k in
    owns_then (one_own v t frames k e near) (all_own vs t r.0 r.1 (variable_external v t site.Own frames k ∙ e) near)

head_still : (p : Position) (count : ℕ) (d : DimensionT) (t : TypeT) (a : AttributesT) (frames : List Frame) (k : Known) → Still k (shape_for p count d t (element_values a) (first_site frames a k).1).1
head_still p count d t a frames k = still_then (first_still frames a k) (shape_still p count d t (element_values a) (first_site frames a k).1)

names_left : (p : Position) (vs : List VariableT) (d : DimensionT) (t : TypeT) (a : AttributesT) (frames : List Frame) (k : Known) → Owns [] k (declared_at p vs d t a frames k).1
names_left p vs d t a frames k =
    let s = first_site frames a k in
    let h = shape_for p (length vs) d t (element_values a) s.1 in
    let r = declared_variables vs (traits_for h.0 a) s.0 frames h.1 in
    still_last (still_first (head_still p (length vs) d t a frames k) (all_left vs (traits_for h.0 a) s.0 frames h.1))
    (filled_still (record { names = vs; shape = h.0; number = length h.1.variables }) p a r.1 r.2)

near_for : (public : Bool) (at : AtT) (fill : InitialT) → IsNear (linkage_for (Attributes public at fill))
near_for true at fill = tt
near_for false at fill = tt

names_own : (p : Position) (vs : List VariableT) (d : DimensionT) (t : TypeT) (public : Bool) (fill : InitialT) (frames : List Frame) (k : Known)
    → is_external frames ≡ false → Owns (own_among vs) k (declared_at p vs d t (Attributes public no_at fill) frames k).1
names_own p vs d t public fill frames k e =
    let a = Attributes public no_at fill in
    let h = shape_for p (length vs) d t (element_values a) k in
    let r = declared_variables vs (traits_for h.0 a) site.Own frames h.1 in
    still_last (still_first (head_still p (length vs) d t a frames k) (all_own vs (traits_for h.0 a) frames h.1 e (near_for public no_at fill)))
    (filled_still (record { names = vs; shape = h.0; number = length h.1.variables }) p a r.1 r.2)

names_owned : (external : Bool) (p : Position) (vs : List VariableT) (d : DimensionT) (t : TypeT) (a : AttributesT) (frames : List Frame) (k : Known)
    → is_external frames ≡ external → Owns (cond (external || not (is_own a)) [] (own_among vs)) k (declared_at p vs d t a frames k).1
names_owned true p vs d t a frames k e = names_left p vs d t a frames k
names_owned false p vs d t External frames k e = names_left p vs d t External frames k
names_owned false p vs d t (Attributes public no_at fill) frames k e = names_own p vs d t public fill frames k e
names_owned false p vs d t (Attributes public (at_number n) fill) frames k e = names_left p vs d t (Attributes public (at_number n) fill) frames k
names_owned false p vs d t (Attributes public (at_location l) fill) frames k e = names_left p vs d t (Attributes public (at_location l) fill) frames k

none_either : (b : Bool) → cond {A = List Position} b [] [] ≡ []
none_either true = refl
none_either false = refl

listed_owned : (external : Bool) (vs : List VariableT) (d : DimensionT) (t : TypeT) (a : AttributesT) (frames : List Frame) (k : Known)
    → is_external frames ≡ external → Owns (cond (external || not (is_own a)) [] (own_among vs)) k (declared_names vs d t a frames k).1
listed_owned external [] d t a frames k e = subst (λ (ps : List Position). Owns ps k k) (sym (none_either (external || not (is_own a)))) (nothing_owned (still k))
listed_owned external (v ∷ vs) d t a frames k e = names_owned external (place_of_variable v) (v ∷ vs) d t a frames k e

element_owned : (external : Bool) (x : ElementT) (frames : List Frame) (k : Known) → is_external frames ≡ external → Owns (own_in_element external x) k (element x frames k).1
element_owned external (LiteralElement n s) frames k e = nothing_owned (still k)
element_owned external (VariableElement d n t a) frames k e = listed_owned external (declared_list d) n t a frames k e

elements_owned : (external : Bool) (es : List ElementT) (frames : List Frame) (k : Known) → is_external frames ≡ external → Owns (own_in_elements external es) k (with_elements es frames k).1
elements_owned external [] frames k e = nothing_owned (still k)
elements_owned external (x ∷ es) frames k e =
    let r = element x frames k in owns_then (element_owned external x frames k e) (elements_owned external es r.0 r.1 (element_external x frames k ∙ e))

-- ---- procedures

handler_still : (p : Position) (l : Linkage) (n : Option ℕ) (k : Known) → Still k (note_handler p l n k)
handler_still p l None k = still k
handler_still p l (Some n) k = still_unless (is_external_linkage l || not (is_handled n k)) k _ (note_whole_still _ k)

header_still : (p : ProcedureR) (k : Known) → Still k (with_header p k)
header_still p k =
    let q = note_handler p.place p.linkage p.interrupt k in
    let a = handler_still p.place p.linkage p.interrupt k in
    let not_fewer = a.procedures in
    let longer = length-append q.procedures (p ∷ []) in
    record { same_module = a.same_module; variables = a.variables; externals = a.externals; publics = a.publics; more = a.more; procedures = omega (arith, not_fewer, longer) }

-- an EXTERNAL procedure is no variable
linked_none : (frames : List Frame) (l : Linkage) (name : List ℕ) (p : ℕ) (k : Known) → Adds [] k (linked frames l name (item.Procedure p) k)
linked_none frames l name p k =
    let a = linked_links frames l name (item.Procedure p) k in
    record {
      added = [];
      variables = a.variables ∙ sym (append-nil k.variables);
      marks = [];
      each = refl;
      objects = [];
      lie = refl;
      rise = let same = a.objects in omega (arith, same);
      declared = refl;
      further = a.further;
      externals = a.externals;
      free = λ before e. a.free (before ++ []) tt;
    }

-- a procedure more gets the next number
procedure_owned : (frames : List Frame) (name : List ℕ) (p : ProcedureR) (k : Known) → p.entry ≡ length k.procedures
    → Owns [] k (linked frames p.linkage name (item.Procedure p.entry) (with_header p k))
procedure_owned frames name p k is =
    let h = header_still p k in
    let i = item.Procedure p.entry in
    let a = linked_links frames p.linkage name i (with_header p k) in
    let before = handler_still p.place p.linkage p.interrupt k in
    let not_fewer = before.procedures in
    let longer = length-append (note_handler p.place p.linkage p.interrupt k).procedures (p ∷ []) in
    record {
      same_module = a.same_module ∙ h.same_module;
      adds = adds_then (nothing_owned h).adds (linked_none frames p.linkage name p.entry (with_header p k));
      numbered = λ n. a.numbered (grown (grows h) n) (procedure_unlinked i (ap item.Procedure is) (omega (arith, not_fewer, longer)) (grows h) n);
    }

in_place_owned : (v : Variable) (k : Known) → Owns [] k (with_variable v k)
in_place_owned v k = unmarked v (item.Variable (length k.variables)) k (with_variable v k) (with_variable v k) refl refl refl refl refl (omega arith) (omega arith) (links_none _ (with_variable v k))

parameter_owned : (i : Option Item) (p : Position) (vs : List ℕ) (k : Known) → Owns [] k (parameter_is i p vs k).1
parameter_owned (Some (item.Variable v)) p vs k = nothing_owned (still k)
parameter_owned (Some (item.Procedure q)) p vs k = in_place_owned (in_place_of (slice_get k.procedures q) p k) k
parameter_owned None p vs k = nothing_owned (note_still E301 p k)

parameters_owned : (frames : List Frame) (listed : Entries) (vs : List ℕ) (ns : List NameT) (k : Known) → Owns [] k (parameters_from frames listed vs ns k).1
parameters_owned frames listed vs [] k = nothing_owned (still k)
parameters_owned frames listed vs (n ∷ ns) k =
    let r = parameter_for frames listed vs n k in
    none_last (still_first (note_unless_still _ E302 n.place k) (parameter_owned (found_here (normal n.text) frames) n.place vs _)) (parameters_owned frames (with_parameter n listed) r.0 ns r.1)

completed_still : (number : ℕ) (ps : List ℕ) (body : StatementsR) (p : Option ProcedureR) (k : Known) → Still k (completed_at number ps body p k)
completed_still number ps body None k = still k
completed_still number ps body (Some p) k = kept refl refl refl refl refl (length-set k.procedures number _)

-- ---- statements and blocks

targets_still : (frames : List Frame) (before : ReferencesR) (xs : List ReferenceT) (k : Known) → Still k (targets_from frames before xs k).1
targets_still frames before [] k = still k
targets_still frames before (x ∷ xs) k = let r = reference frames x k in still_then (reference_still frames x k) (targets_still frames (and_reference before r.0) xs r.1)

step_still : (frames : List Frame) (s : Option ExpressionT) (k : Known) → Still k (step_for frames s k).1
step_still frames None k = still k
step_still frames (Some e) k = expression_still frames e k

path_still : (frames : List Frame) (n : Option NameT) (k : Known) → Still k (block_path frames n k).1
path_still frames (Some n) k = still k
path_still frames None k = kept refl refl refl refl refl refl

mutual
  statement_owned : (external : Bool) (frames : List Frame) (s : StatementT) (k : Known) → is_external frames ≡ external → Owns (own_in_statement external s) k (statement frames s k).1
  statement_owned external frames (Labelled ls b) k h = basic_owned external frames (last_name ls) b k h

  basic_owned : (external : Bool) (frames : List Frame) (label : Option NameT) (b : BasicT) (k : Known) → is_external frames ≡ external → Owns (own_in_basic external b) k (basic frames label b k).1
  basic_owned external frames label (EmptyS p) k h = nothing_owned (still k)
  basic_owned external frames label (AssignS xs e) k h =
      nothing_owned (still_then (targets_still frames no_references (reference_list xs) k) (expression_still frames e (targets_from frames no_references (reference_list xs) k).1))
  basic_owned external frames label (CallS p x) k h = nothing_owned (reference_still frames x k)
  basic_owned external frames label (ReturnS p) k h = nothing_owned (still k)
  basic_owned external frames label (ReturnValueS p e) k h = nothing_owned (expression_still frames e k)
  basic_owned external frames label (EnableS p) k h = nothing_owned (still k)
  basic_owned external frames label (DisableS p) k h = nothing_owned (still k)
  basic_owned external frames label (HaltS p) k h = nothing_owned (still k)
  basic_owned external frames label (IfS p e s) k h = still_first (expression_still frames e k) (statement_owned external frames s (expression frames e k).1 h)
  basic_owned external frames label (IfElseS p e s t) k h =
      let r = expression frames e k in let q = statement frames s r.1 in
      still_first (expression_still frames e k) (owns_then (statement_owned external frames s r.1 h) (statement_owned external frames t q.1 h))
  basic_owned external frames label (DoS p b n) k h =
      let r = block_path frames label k in still_first (path_still frames label k) (block_owned external (frame r.0 (is_external frames) ∷ frames) b r.1 h)
  basic_owned external frames label (WhileS p e ss n) k h = still_first (expression_still frames e k) (statements_owned external frames ss (expression frames e k).1 h)
  basic_owned external frames label (CaseS p e ss n) k h = still_first (expression_still frames e k) (statements_owned external frames ss (expression frames e k).1 h)
  basic_owned external frames label (IterateS p i a b s ss n) k h =
      let m = used frames i k in let r = expression frames a m.1 in let q = expression frames b r.1 in let u = step_for frames s q.1 in
      still_first (still_then (used_still frames i k) (still_then (expression_still frames a m.1) (still_then (expression_still frames b r.1) (step_still frames s q.1))))
      (statements_owned external frames ss u.1 h)

  statements_owned : (external : Bool) (frames : List Frame) (ss : StatementsT) (k : Known) → is_external frames ≡ external → Owns (own_in_statements external ss) k (read_statements frames ss k).1
  statements_owned external frames tree.no_statements k h = nothing_owned (still k)
  statements_owned external frames (tree.statements ss s) k h = owns_then (statements_owned external frames ss k h) (statement_owned external frames s (read_statements frames ss k).1 h)

  block_owned : (external : Bool) (frames : List Frame) (b : BlockT) (k : Known) → is_external frames ≡ external → Owns (own_in_block external b) k (block frames b k).2
  block_owned external frames (BlockOf is ss) k h =
      let r = with_items frames is k in owns_then (items_owned external frames is k h) (statements_owned external r.0 ss r.1 (items_external is frames k ∙ h))

  items_owned : (external : Bool) (frames : List Frame) (is : ItemsT) (k : Known) → is_external frames ≡ external → Owns (own_in_items external is) k (with_items frames is k).1
  items_owned external frames no_items k h = nothing_owned (still k)
  items_owned external frames (items is i) k h =
      let r = with_items frames is k in owns_then (items_owned external frames is k h) (item_owned external r.0 i r.1 (items_external is frames k ∙ h))

  item_owned : (external : Bool) (frames : List Frame) (i : ItemT) (k : Known) → is_external frames ≡ external → Owns (own_in_item external i) k (with_item frames i k).1
  item_owned external frames (DeclareI p es) k h = elements_owned external (element_list es) frames k h
  item_owned external frames (ProcedureI n ps s i l b x) k h =
      let p = header (name_after (path_in frames) (normal n.text)) n (name_list ps) s i (linkage_of l) b k in
      let r = declared_procedure frames n p k in
      let inside = frame p.path (is_external_linkage p.linkage || is_external frames) in
      let q = block (inside ∷ r.0) b r.1 in
      let u = parameters_from q.1 [] [] (name_list ps) q.2 in
      let first = still_last (procedure_owned frames (normal n.text) p k refl)
      (declared_still n (item.Procedure p.entry) frames (linked frames p.linkage (normal n.text) (item.Procedure p.entry) (with_header p k))) in
      let body = block_owned (is_external_linkage (linkage_of l) || external) (inside ∷ r.0) b r.1 (ap (λ (b : Bool). is_external_linkage (linkage_of l) || b) h) in
      still_last (none_last (owns_then first body) (parameters_owned q.1 [] [] (name_list ps) q.2)) (completed_still p.entry u.0 q.0 (slice_get u.1.procedures p.entry) u.1)

-- ---- programs

main_still : (b : Bool) (ss : StatementsR) (k : Known) → Still k (with_main b ss k)
main_still true ss k = kept refl refl refl refl refl refl
main_still false ss k = still k

module_owned : (number : ℕ) (name : NameT) (b : BlockT) (e : Option NameT) (k : Known) → Owns (own_in_block false b) (at_module number k) (with_module number (ModuleOf name b e) k)
module_owned number name b e k =
    let frames = frame (normal name.text) false ∷ [] in
    let r = block frames b (at_module number k) in
    still_last (block_owned false frames b (at_module number k) refl) (main_still (has_statements b) r.0 r.2)

module_adds : (number : ℕ) (m : ModuleT) (k : Known) → Adds (own_in_module number m) k (with_module number m k)
module_adds number (ModuleOf n b e) k =
    let x = (module_owned number n b e k).adds in
    record {
      added = x.added;
      variables = x.variables;
      marks = x.marks;
      each = x.each;
      objects = x.objects;
      lie = x.lie;
      rise = x.rise;
      declared = x.declared;
      further = x.further;
      externals = x.externals;
      free = x.free;
    }

module_numbered : (number : ℕ) (m : ModuleT) (k : Known) → AreNumbered k → AreNumbered (with_module number m k)
module_numbered number (ModuleOf n b e) k h = (module_owned number n b e k).numbered (record { apart = h.apart; externals = h.externals; publics = h.publics })

modules_numbered : (number : ℕ) (ms : List ModuleT) (k : Known) → AreNumbered k → AreNumbered (modules_from number ms k)
modules_numbered number [] k h = h
modules_numbered number (m ∷ ms) k h = modules_numbered (number + 1) ms (with_module number m k) (module_numbered number m k h)

pub externals_are_apart : (ms : List ModuleT) → AreApart (known_from ms).externals (known_from ms).publics
externals_are_apart ms = (modules_numbered 0 ms nothing_known (record { apart = tt; externals = tt; publics = tt })).apart

modules_add : (number : ℕ) (ms : List ModuleT) (k : Known) → Adds (own_from number ms) k (modules_from number ms k)
modules_add number [] k = (nothing_owned (still k)).adds
modules_add number (m ∷ ms) k = adds_then (module_adds number m k) (modules_add (number + 1) ms (with_module number m k))

-- joining changes EXTERNAL variables alone
region_joined_marked : (marks : List Bool) (m : ℕ) (v w : Option Variable) (k : Known) → slice_get marks m ≡ Some false → marked marks (region_joined m v w k).variables ≡ marked marks k.variables
region_joined_marked marks m None w k h = refl
region_joined_marked marks m (Some v) None k h = refl
region_joined_marked marks m (Some v) (Some w) k h = marked_set marks k.variables m _ h

entry_joined_variables : (m : ℕ) (p : Option ProcedureR) (n : ℕ) (k : Known) → (entry_joined m p n k).variables ≡ k.variables
entry_joined_variables m None n k = refl
entry_joined_variables m (Some p) n k = refl

joined_marked : (marks : List Bool) (e p : Item) (k : Known) → IsFree marks e → marked marks (joined e p k).variables ≡ marked marks k.variables
joined_marked marks (item.Variable m) (item.Variable n) k h = region_joined_marked marks m (slice_get k.variables m) (slice_get k.variables n) k h
joined_marked marks (item.Variable m) (item.Procedure n) k h = refl
joined_marked marks (item.Procedure m) (item.Variable n) k h = refl
joined_marked marks (item.Procedure m) (item.Procedure n) k h = ap (marked marks) (entry_joined_variables m (slice_get k.procedures m) n k)

either_marked : (marks : List Bool) (b : Bool) (k x y : Known) → marked marks x.variables ≡ marked marks k.variables → marked marks y.variables ≡ marked marks k.variables → marked marks (cond b x y).variables ≡ marked marks k.variables
either_marked marks true k x y p q = p
either_marked marks false k x y p q = q

external_marked : (marks : List Bool) (e : Item) (p : Option Item) (k : Known) → IsFree marks e → marked marks (external_joined e p k).variables ≡ marked marks k.variables
external_marked marks e None k h = refl
external_marked marks e (Some p) k h = either_marked marks (agree k e p) k _ _ (joined_marked marks e p k h) refl

externals_marked : (marks : List Bool) (es : List ExternalR) (k : Known) → AreFree marks es → marked marks (externals_joined es k).variables ≡ marked marks k.variables
externals_marked marks [] k h = refl
externals_marked marks (e ∷ es) k h =
    let p = found_in e.name k.publics in externals_marked marks es (external_joined e.item p k) h.1 ∙ external_marked marks e.item p k h.0

pub fault_variables : (b : Bool) (f : Found) (k : Known) → (program_fault b f k).variables ≡ k.variables
fault_variables true f k = refl
fault_variables false f k = refl

joins_marked : (marks : List Bool) (k : Known) → AreFree marks k.externals → marked marks (modules_joined k).variables ≡ marked marks k.variables
joins_marked marks k h =
    let before : Known = record k { externals = [] } in
    let q = externals_joined k.externals before in
    let p = program_fault (nat_eq (length q.mains) 1) (record { «module» = 0; place = start; number = E308 }) q in
    ap (marked marks) (fault_variables (have_room p.objects) _ p ∙ fault_variables (nat_eq (length q.mains) 1) _ q) ∙ externals_marked marks k.externals before h

pub own_names_have_objects : (names : Names) (ms : List ModuleT) → AreNames names ms → HaveObjects names ms
own_names_have_objects names ms are =
    let k = known_from ms in
    let a = modules_add 0 ms nothing_known in
    let same : marked a.marks names.variables.items ≡ marked a.marks a.added =
    ap (marked a.marks) are.variables ∙ joins_marked a.marks k (subst (λ (es : List ExternalR). AreFree a.marks es) (sym a.externals) (a.free [] refl)) ∙ ap (marked a.marks) a.variables in
    record {
      marks = a.marks;
      objects = a.objects;
      declared = ap (map where_declared) same ∙ a.declared;
      lie = ap regions same ∙ a.lie;
      rise = rising 0 a.objects (length k.objects) a.rise;
    }
