-- What reading a tree notes of names that are declared twice.
use Rattle.std.proofs.Common.{◌≡◌, ℕ, ◌+◌, ◌-◌, List, [], ◌∷◌, ◌++◌, map, length, Bool, true, false, ◌&&◌, ◌||◌, not, cond, Option, Some, None, nat_eq, nat_le, refl, sym, ap, subst, ◌∙◌}
use Rattle.std.proofs.Math.Bool.{or-false}
use Rattle.std.specs.Prelude.{slice_get, bytes_eq}
use Rattle.std.specs.Option.{option_map_or}
use Rattle.std.proofs.lemmas.List.{append-nil, append_assoc, map-append}
use Rattle.std.proofs.lemmas.List.Elements.{filter-append}
use Rattle.word86.specs.declared.number.Number.{Number}
use Rattle.word86.specs.declared.number.Number.TheVariants.{E301, E302, E303, E304, E305, E306, E307, E308, E310}
use Rattle.word86.specs.declared.page.Page.{Page}
use Rattle.word86.specs.Page.{page_size}
use Rattle.plm_token.specs.Names.{normal}
use Rattle.plm_token.specs.Strings.{string_characters}
use Rattle.plm_syntax.specs.declared.tree.Position.{Position}
use Rattle.plm_syntax.specs.declared.tree.Linkage.{Linkage}
use Rattle.plm_syntax.specs.declared.tree.Linkage.TheVariants as linkage
use Rattle.plm_syntax.specs.Terminal.{NameT, NumeralT}
use Rattle.plm_syntax.specs.Tree.{ExpressionT, NumeralE, TextE, ReferenceE, LocationE, ParenthesisedE, EmbeddedE, UnaryE, BinaryE, ReferenceT, ReferenceOf, ExpressionsT, SelectorT, LocationT, ValueT, NumeralV, NegativeV, TextV, LocationV, VariableT, VariableOf, MemberT, TypeT, ScalarType, StructureType, DimensionT, no_dimension, dimension, implicit_dimension, AtT, no_at, at_number, at_location, AttributesT, External, Attributes, ElementT, LiteralElement, VariableElement, StatementT, Labelled, BasicT, EmptyS, AssignS, CallS, ReturnS, ReturnValueS, EnableS, DisableS, HaltS, IfS, IfElseS, DoS, WhileS, CaseS, IterateS, StatementsT, BlockT, BlockOf, ItemsT, no_items, items, ItemT, DeclareI, ProcedureI, ModuleT, ModuleOf}
use Rattle.plm_syntax.specs.Tree as tree
use Rattle.plm_decl.specs.declared.found.Found.{Found}
use Rattle.plm_decl.specs.declared.layout.Form.{Form}
use Rattle.plm_decl.specs.declared.layout.ScalarType as layout
use Rattle.plm_decl.specs.declared.names.Datum.{Datum}
use Rattle.plm_decl.specs.declared.names.Region.{Region}
use Rattle.plm_decl.specs.declared.names.Region.TheVariants as region
use Rattle.plm_decl.specs.declared.names.Variable.{Variable}
use Rattle.plm_decl.specs.declared.names.Item.{Item}
use Rattle.plm_decl.specs.declared.names.Item.TheVariants as item
use Rattle.plm_decl.specs.declared.resolved.Binding.{Binding}
use Rattle.plm_decl.specs.declared.sites.Site.{Site}
use Rattle.plm_decl.specs.declared.sites.Site.TheVariants as site
use Rattle.plm_decl.specs.declared.attributes.Traits.{Traits}
use Rattle.plm_decl.specs.declared.fill.Cursor.{Cursor}
use Rattle.plm_decl.specs.Layout.{StructureR, counted, scalar_of, has_field, no_fields, is_dimension, with_field}
use Rattle.plm_decl.specs.Found.{precedes}
use Rattle.plm_decl.specs.Spelling.{name_after}
use Rattle.plm_decl.specs.Scope.{Entries, Frame, frame, path_in, is_external, found_in, found_here}
use Rattle.plm_decl.specs.Resolver.{Known, ExternalR, note, note_unless, note_whole, nothing_known}
use Rattle.plm_decl.specs.Lists.{name_list, member_list, element_list, value_list, reference_list}
use Rattle.plm_decl.specs.Names.{ObjectR, ProcedureR, is_external_linkage}
use Rattle.plm_decl.specs.Regions.{size_at}
use Rattle.plm_decl.specs.Uses.{used}
use Rattle.plm_decl.specs.Resolved.{ReferencesR, StatementsR, no_references, and_reference}
use Rattle.plm_decl.specs.Expressions.{structure_meant, member_of_structure, member_meant, are_constants, constant_bytes, expression, reference, subscripts, selector, location}
use Rattle.plm_decl.specs.Datum.{is_byte, character_datum}
use Rattle.plm_decl.specs.Shape.{member_names, member_count, member_scalar, number_of_elements, with_member_name, with_member_names, with_members, structure_for, form_for, elements_filled, dimension_for, shape_for, scalar_at, size_of_shape}
use Rattle.plm_decl.specs.Linkage.{start, found_item, with_public, linked}
use Rattle.plm_decl.specs.Elements.{base_for, with_screen_name, region_for, declared, with_variable, variable_in, region_of_variable, declared_variable, declared_variables, declared_list, place_of_variable}
use Rattle.plm_decl.specs.Sites.{location_site, at_site, first_site, site_after}
use Rattle.plm_decl.specs.Attributes.{element_values, has_values, is_placed, traits_for}
use Rattle.plm_decl.specs.Fill.{location_in, datum_for, FillingR, given_at, given_in, put_datum, too_many, name_at, put_at, put_value, past_at, unless_past, put_characters, put_single, filled_with, filled_from, filled_element, declared_at, declared_names, element}
use Rattle.plm_decl.specs.Statements.{targets_from, step_for, block_path, with_elements, statement, basic, statements as read_statements, block, with_items, with_item}
use Rattle.plm_syntax.specs.Spelling.{last_name}
use Rattle.plm_decl.specs.Procedures.{linkage_of, is_handled, note_handler, header, with_header, declared_procedure, parameter_is, with_parameter, parameter_for, parameters_from, completed_at}
use Rattle.plm_decl.specs.Joins.{region_joined, entry_joined, joined, agree, unjoined, external_joined, externals_joined, have_room, program_fault, modules_joined, has_statements, with_main, at_module, with_module, modules_from, known_from}
use Rattle.plm_decl.specs.Modules.{faults_of, whole_faults_of}
use Rattle.plm_decl.specs.BlockNames.{name_of_variable, names_of_variables, names_of_element, names_of_items, has_name}
use Rattle.plm_decl.specs.DeclaredAgain.{place_again, places_again, names_of_members, again_in_type, again_in_names, again_in_element, again_in_elements, again_in_block, again_in_items, again_in_item, again_in_statements, again_in_statement, again_in_basic, declared_twice, again_in_module, again_from, declared_again, is_twice, second_declarations}
use Rattle.plm_decl.proofs.BlockNames.{finds, entered, has_both, Enters, enters_then, one_variable, one_element, block_enters, fresh_where_undeclared}
use Rattle.plm_decl.proofs.Once.{has_pushed, has_names}

-- ---- what is noted on the way

abbrev seconds : Known → List Found
seconds k = second_declarations k.faults

abbrev whole_seconds : Known → List Found
whole_seconds k = second_declarations k.whole

-- no name that is declared twice
record Quiet (k q : Known) : Type 0 where
  pub same_module : q.module ≡ k.module
  pub same_seconds : seconds q ≡ seconds k
  pub same_whole : whole_seconds q ≡ whole_seconds k

-- the names at these places
record Notes (ps : List Position) (k q : Known) : Type 0 where
  pub same_module : q.module ≡ k.module
  pub are_noted : seconds q ≡ seconds k ++ map (declared_twice k.module) ps
  pub same_whole : whole_seconds q ≡ whole_seconds k

quiet : (k : Known) → Quiet k k
quiet k = record { same_module = refl; same_seconds = refl; same_whole = refl }

quiet_then : {k q r : Known} → Quiet k q → Quiet q r → Quiet k r
quiet_then a b = record { same_module = b.same_module ∙ a.same_module; same_seconds = b.same_seconds ∙ a.same_seconds; same_whole = b.same_whole ∙ a.same_whole }

quiet_unless : (b : Bool) (k q : Known) → Quiet k q → Quiet k (cond b k q)
quiet_unless true k q h = quiet k
quiet_unless false k q h = h

still : {k q : Known} → Quiet k q → Notes [] k q
still {k} a = record { same_module = a.same_module; are_noted = a.same_seconds ∙ sym (append-nil (seconds k)); same_whole = a.same_whole }

quiet_first : {ps : List Position} {k q r : Known} → Quiet k q → Notes ps q r → Notes ps k r
quiet_first {ps} {k} {q} {r} a b = record {
  same_module = b.same_module ∙ a.same_module;
  are_noted = b.are_noted ∙ ap (λ (fs : List Found). fs ++ map (declared_twice q.module) ps) a.same_seconds ∙ ap (λ (m : ℕ). seconds k ++ map (declared_twice m) ps) a.same_module;
  same_whole = b.same_whole ∙ a.same_whole;
}

quiet_last : {ps : List Position} {k q r : Known} → Notes ps k q → Quiet q r → Notes ps k r
quiet_last a b = record { same_module = b.same_module ∙ a.same_module; are_noted = b.same_seconds ∙ a.are_noted; same_whole = b.same_whole ∙ a.same_whole }

notes_then : {ps qs : List Position} {k q r : Known} → Notes ps k q → Notes qs q r → Notes (ps ++ qs) k r
notes_then {ps} {qs} {k} {q} {r} a b =
    let second = declared_twice k.module in record {
      same_module = b.same_module ∙ a.same_module;
      are_noted = b.are_noted
          ∙ ap (λ (m : ℕ). seconds q ++ map (declared_twice m) qs) a.same_module
          ∙ ap (λ (fs : List Found). fs ++ map second qs) a.are_noted
          ∙ append_assoc (seconds k) (map second ps) (map second qs)
          ∙ ap (λ (fs : List Found). seconds k ++ fs) (sym (map-append second ps qs));
      same_whole = b.same_whole ∙ a.same_whole;
    }

-- a fault of another number
other_pushed : (fs : List Found) (f : Found) → is_twice f.number ≡ false → second_declarations (fs ++ f ∷ []) ≡ second_declarations fs
other_pushed fs f h =
    filter-append (λ (g : Found). is_twice g.number) fs (f ∷ [])
    ∙ ap (λ (b : Bool). second_declarations fs ++ cond b (f ∷ []) []) h ∙ append-nil (second_declarations fs)

note_quiet : (n : Number) (p : Position) (k : Known) → is_twice n ≡ false → Quiet k (note n p k)
note_quiet n p k h = record { same_module = refl; same_seconds = other_pushed k.faults _ h; same_whole = refl }

note_whole_quiet : (f : Found) (k : Known) → is_twice f.number ≡ false → Quiet k (note_whole f k)
note_whole_quiet f k h = record { same_module = refl; same_seconds = refl; same_whole = other_pushed k.whole f h }

note_unless_quiet : (b : Bool) (n : Number) (p : Position) (k : Known) → is_twice n ≡ false → Quiet k (note_unless b n p k)
note_unless_quiet b n p k h = quiet_unless b k (note n p k) (note_quiet n p k h)

twice_if : (b : Bool) (p : Position) (k : Known) → Notes (cond b (p ∷ []) []) k (note_unless (not b) E302 p k)
twice_if true p k = record { same_module = refl; are_noted = filter-append (λ (g : Found). is_twice g.number) k.faults (declared_twice k.module p ∷ []); same_whole = refl }
twice_if false p k = still (quiet k)

-- a test that answers whether the name is one of those before
twice_unless : (b : Bool) (before : List NameT) (n : NameT) (k : Known) → b ≡ not (has_name (normal n.text) before) → Notes (place_again before n) k (note_unless b E302 n.place k)
twice_unless b before n k h =
    subst (λ (x : Bool). Notes (place_again before n) k (note_unless x E302 n.place k)) (sym h) (twice_if (has_name (normal n.text) before) n.place k)

has_one_more : (name : List ℕ) (before : List NameT) (n : NameT) → has_name name (before ++ n ∷ []) ≡ (has_name name before || bytes_eq name (normal n.text))
has_one_more name before n = has_both name before (n ∷ []) ∙ ap (λ (b : Bool). has_name name before || b) (or-false (bytes_eq name (normal n.text)))

places_of_both : (before ms ns : List NameT) → places_again before (ms ++ ns) ≡ places_again before ms ++ places_again (before ++ ms) ns
places_of_both before [] ns = ap (λ (ls : List NameT). places_again ls ns) (sym (append-nil before))
places_of_both before (m ∷ ms) ns =
    ap (λ (ps : List Position). place_again before m ++ ps) (places_of_both (before ++ m ∷ []) ms ns)
    ∙ sym (append_assoc (place_again before m) (places_again (before ++ m ∷ []) ms) (places_again (before ++ m ∷ [] ++ ms) ns))
    ∙ ap (λ (ls : List NameT). place_again before m ++ places_again (before ++ m ∷ []) ms ++ places_again ls ns) (append_assoc before (m ∷ []) ms)

-- ---- expressions

used_quiet : (frames : List Frame) (n : NameT) (k : Known) → Quiet k (used frames n k).1
used_quiet frames n k = note_unless_quiet _ E301 n.place k refl

structure_member_quiet : (s : Option StructureR) (n : NameT) (k : Known) → Quiet k (member_of_structure s n k).1
structure_member_quiet None n k = quiet k
structure_member_quiet (Some s) n k = note_unless_quiet _ E301 n.place k refl

member_quiet : (m : Binding) (n : NameT) (k : Known) → Quiet k (member_meant m n k).1
member_quiet m n k = structure_member_quiet (structure_meant k m) n k

constants_quiet : (frames : List Frame) (p : Position) (vs : List ValueT) (k : Known) → Quiet k (constant_bytes frames p vs k).1
constants_quiet frames p vs k =
    let a = note_unless_quiet (are_constants vs) E305 p k refl in record { same_module = a.same_module; same_seconds = a.same_seconds; same_whole = a.same_whole }

mutual
  expression_quiet : (frames : List Frame) (e : ExpressionT) (k : Known) → Quiet k (expression frames e k).1
  expression_quiet frames (NumeralE n) k = quiet k
  expression_quiet frames (TextE s) k = quiet k
  expression_quiet frames (ReferenceE x) k = reference_quiet frames x k
  expression_quiet frames (LocationE l) k = location_quiet frames l k
  expression_quiet frames (ParenthesisedE p e) k = expression_quiet frames e k
  expression_quiet frames (EmbeddedE p x e) k = quiet_then (reference_quiet frames x k) (expression_quiet frames e (reference frames x k).1)
  expression_quiet frames (UnaryE p o e) k = expression_quiet frames e k
  expression_quiet frames (BinaryE p o a b) k = quiet_then (expression_quiet frames a k) (expression_quiet frames b (expression frames a k).1)

  reference_quiet : (frames : List Frame) (x : ReferenceT) (k : Known) → Quiet k (reference frames x k).1
  reference_quiet frames (ReferenceOf n es s) k =
      let m = used frames n k in
      quiet_then (used_quiet frames n k) (quiet_then (subscripts_quiet frames es m.1) (selector_quiet frames m.0 s (subscripts frames es m.1).1))

  subscripts_quiet : (frames : List Frame) (es : ExpressionsT) (k : Known) → Quiet k (subscripts frames es k).1
  subscripts_quiet frames tree.no_expressions k = quiet k
  subscripts_quiet frames (tree.expressions es e) k = quiet_then (subscripts_quiet frames es k) (expression_quiet frames e (subscripts frames es k).1)

  selector_quiet : (frames : List Frame) (m : Binding) (s : SelectorT) (k : Known) → Quiet k (selector frames m s k).1
  selector_quiet frames m tree.no_member k = quiet k
  selector_quiet frames m (tree.member n) k = member_quiet m n k
  selector_quiet frames m (tree.member_at n e) k = quiet_then (member_quiet m n k) (expression_quiet frames e (member_meant m n k).1)

  location_quiet : (frames : List Frame) (l : LocationT) (k : Known) → Quiet k (location frames l k).1
  location_quiet frames (tree.LocationOf p f x) k = reference_quiet frames x k
  location_quiet frames (tree.ConstantsOf p f vs) k = constants_quiet frames p (value_list vs) k

-- ---- types

number_quiet : (p : Position) (n : Option NumeralT) (k : Known) → Quiet k (number_of_elements p n k).1
number_quiet p None k = quiet k
number_quiet p (Some n) k = note_unless_quiet (is_dimension n.value) E305 p k refl

-- a structure whose members have these names
abbrev HasMembers : List NameT → StructureR → Type 0
HasMembers before s = (name : List ℕ) → has_field name s.fields ≡ has_name name before

one_member_more : (before : List NameT) (s : StructureR) (n : NameT) (t : layout.ScalarType) (d : Option ℕ) → HasMembers before s → HasMembers (before ++ n ∷ []) (with_field (normal n.text) t d s)
one_member_more before s n t d h = λ name.
    has_pushed name s.fields _ ∙ ap (λ (b : Bool). b || bytes_eq name (normal n.text)) (h name) ∙ sym (has_one_more name before n)

members_after : (before : List NameT) (s : StructureR) (ns : List NameT) (t : layout.ScalarType) (d : Option ℕ) (k : Known) → HasMembers before s → HasMembers (before ++ ns) (with_member_names ns t d s k).0
members_after before s ns t d k h = λ name.
    has_names name ns t d s k ∙ ap (λ (b : Bool). b || has_name name ns) (h name) ∙ sym (has_both name before ns)

member_names_note : (before : List NameT) (ns : List NameT) (t : layout.ScalarType) (d : Option ℕ) (s : StructureR) (k : Known)
    → HasMembers before s → Notes (places_again before ns) k (with_member_names ns t d s k).1
member_names_note before [] t d s k h = still (quiet k)
member_names_note before (n ∷ ns) t d s k h =
    let r = with_member_name n t d s k in
    notes_then (twice_unless _ before n k (ap not (h (normal n.text)))) (member_names_note (before ++ n ∷ []) ns t d r.0 r.1 (one_member_more before s n t d h))

members_note : (before : List NameT) (p : Position) (ms : List MemberT) (s : StructureR) (k : Known) → HasMembers before s → Notes (places_again before (names_of_members ms)) k (structure_for p ms s k).1
members_note before p [] s k h = still (quiet k)
members_note before p (m ∷ ms) s k h =
    let d = number_of_elements p (member_count m) k in
    let t = scalar_of (member_scalar m) in
    let r = with_members p m s k in
    let here = quiet_first (number_quiet p (member_count m) k) (member_names_note before (member_names m) t d.0 s d.1 h) in
    let others = members_note (before ++ member_names m) p ms r.0 r.1 (members_after before s (member_names m) t d.0 d.1 h) in
    subst (λ (ps : List Position). Notes ps k (structure_for p (m ∷ ms) s k).1) (sym (places_of_both before (member_names m) (names_of_members ms))) (notes_then here others)

form_notes : (p : Position) (t : TypeT) (k : Known) → Notes (again_in_type t) k (form_for p t k).1
form_notes p (ScalarType s) k = still (quiet k)
form_notes p (StructureType ms) k =
    let a = members_note [] p (member_list ms) no_fields k (λ name. refl) in record { same_module = a.same_module; are_noted = a.are_noted; same_whole = a.same_whole }

dimension_quiet : (p : Position) (count : ℕ) (d : DimensionT) (f : Form) (vs : List ValueT) (k : Known) → Quiet k (dimension_for p count d f vs k).1
dimension_quiet p count no_dimension f vs k = quiet k
dimension_quiet p count (dimension n) f vs k = number_quiet p (Some n) k
dimension_quiet p count implicit_dimension f vs k = note_unless_quiet (nat_eq count 1 && is_dimension (elements_filled k f vs)) E305 p k refl

shape_notes : (p : Position) (count : ℕ) (d : DimensionT) (t : TypeT) (vs : List ValueT) (k : Known) → Notes (again_in_type t) k (shape_for p count d t vs k).1
shape_notes p count d t vs k = let f = form_for p t k in quiet_last (form_notes p t k) (dimension_quiet p count d f.0 vs f.1)

-- ---- names of an element

location_site_quiet : (frames : List Frame) (l : LocationT) (k : Known) → Quiet k (location_site frames l k).1
location_site_quiet frames (tree.ConstantsOf p f vs) k = quiet k
location_site_quiet frames (tree.LocationOf p f x) k = let a = reference_quiet frames x k in record { same_module = a.same_module; same_seconds = a.same_seconds; same_whole = a.same_whole }

at_quiet : (frames : List Frame) (a : AtT) (k : Known) → Quiet k (at_site frames a k).1
at_quiet frames no_at k = quiet k
at_quiet frames (at_number n) k = quiet k
at_quiet frames (at_location l) k = location_site_quiet frames l k

first_quiet : (frames : List Frame) (a : AttributesT) (k : Known) → Quiet k (first_site frames a k).1
first_quiet frames External k = quiet k
first_quiet frames (Attributes public at fill) k = at_quiet frames at k

base_quiet : (frames : List Frame) (n base : NameT) (attributed : Bool) (k : Known) → Quiet k (base_for frames n base attributed k).1
base_quiet frames n base attributed k = let m = used frames base k in quiet_then (used_quiet frames base k) (note_unless_quiet _ E304 n.place m.1 refl)

own_quiet : (b : Bool) (o : ObjectR) (k : Known) → Quiet k (cond {A = Region × Known} b (region.Nowhere, k) (region.Ram (length k.objects) 0, record k { objects = k.objects ++ o ∷ [] })).1
own_quiet true o k = quiet k
own_quiet false o k = record { same_module = refl; same_seconds = refl; same_whole = refl }

screen_name_quiet : (frames : List Frame) (name : List ℕ) (size : ℕ) (page : Page) (offset : ℕ) (k : Known) → Quiet k (with_screen_name frames name size page offset k)
screen_name_quiet frames name size page offset k = quiet_unless (is_external frames) k _ (record { same_module = refl; same_seconds = refl; same_whole = refl })

region_quiet : (frames : List Frame) (n : NameT) (name : List ℕ) (size : ℕ) (s : Site) (k : Known) → Quiet k (region_for frames n name size s k).1
region_quiet frames n name size site.Own k = own_quiet (is_external frames) _ k
region_quiet frames n name size site.Nowhere k = quiet k
region_quiet frames n name size site.Outside k = note_quiet E303 n.place k refl
region_quiet frames n name size (site.Ram object offset) k = note_unless_quiet (nat_le (counted (offset + size)) (size_at k.objects object)) E303 n.place k refl
region_quiet frames n name size (site.Screen page offset) k =
    quiet_then (note_unless_quiet (nat_le (counted (offset + size)) page_size) E303 n.place k refl) (screen_name_quiet frames name size page offset _)

region_of_quiet : (frames : List Frame) (n : NameT) (base : Option NameT) (t : Traits) (s : Site) (k : Known) → Quiet k (region_of_variable frames n base t s k).1
region_of_quiet frames n (Some base) t s k = base_quiet frames n base t.has_attribute k
region_of_quiet frames n None t s k = region_quiet frames n (normal n.text) (size_of_shape t.shape) s k

found_of_other : {X : Type 0} (f : X → Found) (o : Option X) (none : Found) → ((x : X) → is_twice (f x).number ≡ false) → is_twice none.number ≡ false → is_twice (option_map_or f o none).number ≡ false
found_of_other f None none h g = g
found_of_other f (Some x) none h g = h x

found_item_other : (k : Known) (i : Item) (n : Number) → is_twice n ≡ false → is_twice (found_item k i n).number ≡ false
found_item_other k (item.Variable v) n h = found_of_other _ (slice_get k.variables v) _ (λ x. h) h
found_item_other k (item.Procedure p) n h = found_of_other _ (slice_get k.procedures p) _ (λ x. h) h

public_quiet : (name : List ℕ) (i : Item) (first : Option Item) (k : Known) → Quiet k (with_public name i first k)
public_quiet name i None k = record { same_module = refl; same_seconds = refl; same_whole = refl }
public_quiet name i (Some first) k = note_whole_quiet (found_item k first E307) k (found_item_other k first E307 refl)

linked_quiet : (frames : List Frame) (l : Linkage) (name : List ℕ) (i : Item) (k : Known) → Quiet k (linked frames l name i k)
linked_quiet frames linkage.None name i k = quiet k
linked_quiet frames linkage.Public name i k = quiet_unless (is_external frames) k _ (public_quiet name i (found_in name k.publics) k)
linked_quiet frames linkage.External name i k = quiet_unless (is_external frames) k _ (record { same_module = refl; same_seconds = refl; same_whole = refl })

variable_quiet : (v : Variable) (k : Known) → Quiet k (with_variable v k)
variable_quiet v k = record { same_module = refl; same_seconds = refl; same_whole = refl }

-- in a block that has declared these names
declared_notes : (f : Frame) (outer : List Frame) (before : List NameT) (frames : List Frame) (n : NameT) (i : Item) (k : Known)
    → f.names ≡ [] → Enters f outer before frames → Notes (place_again before n) k (declared n i frames k).1
declared_notes f outer before frames n i k none e = twice_unless _ before n k (fresh_where_undeclared (normal n.text) f outer before frames none e)

variable_notes : (f : Frame) (outer : List Frame) (before : List NameT) (frames : List Frame) (v : VariableT) (t : Traits) (s : Site) (k : Known)
    → f.names ≡ [] → Enters f outer before frames → Notes (place_again before (name_of_variable v)) k (declared_variable v t s frames k).1
variable_notes f outer before frames (VariableOf n base) t s k none e =
    let r = region_of_variable frames n base t s k in
    let i = item.Variable (length r.1.variables) in
    let v = variable_in t n.place r.0 r.1 in
    let a = quiet_first (quiet_then (region_of_quiet frames n base t s k) (quiet_then (variable_quiet v r.1) (linked_quiet frames t.linkage (normal n.text) i (with_variable v r.1))))
    (declared_notes f outer before frames n i _ none e) in
    record { same_module = a.same_module; are_noted = a.are_noted; same_whole = a.same_whole }

variables_note : (f : Frame) (outer : List Frame) (before : List NameT) (frames : List Frame) (vs : List VariableT) (t : Traits) (s : Site) (k : Known)
    → f.names ≡ [] → Enters f outer before frames → Notes (places_again before (names_of_variables vs)) k (declared_variables vs t s frames k).2
variables_note f outer before frames [] t s k none e = still (quiet k)
variables_note f outer before frames (v ∷ vs) t s k none e =
    let r = declared_variable v t s frames k in
    notes_then (variable_notes f outer before frames v t s k none e)
    (variables_note f outer (before ++ name_of_variable v ∷ []) r.0 vs t (site_after s (size_of_shape t.shape)) r.1 none
    (enters_then f outer before (name_of_variable v ∷ []) (λ (x : List Frame). (declared_variable v t s x k).0) frames e (λ g. one_variable g outer v t s k)))

-- ---- initial values

location_in_quiet : (frames : List Frame) (s : layout.ScalarType) (l : LocationT) (k : Known) → Quiet k (location_in frames s l k).1
location_in_quiet frames s l k = let a = location_quiet frames l k in record { same_module = a.same_module; same_seconds = a.same_seconds; same_whole = a.same_whole }

datum_quiet : (frames : List Frame) (s : layout.ScalarType) (v : ValueT) (k : Known) → Quiet k (datum_for frames s v k).1
datum_quiet frames s (NumeralV n) k = quiet k
datum_quiet frames s (NegativeV n) k = quiet k
datum_quiet frames s (TextV t) k = quiet k
datum_quiet frames s (LocationV l) k = location_in_quiet frames s l k

given_at_quiet : (object : ℕ) (d : Datum) (o : Option ObjectR) (k : Known) → Quiet k (given_at object d o k)
given_at_quiet object d None k = quiet k
given_at_quiet object d (Some o) k = record { same_module = refl; same_seconds = refl; same_whole = refl }

given_in_quiet : (r : Region) (d : Datum) (k : Known) → Quiet k (given_in r d k)
given_in_quiet (region.Ram o x) d k = given_at_quiet o d (slice_get k.objects o) k
given_in_quiet (region.Screen page x) d k = quiet k
given_in_quiet (region.Based v) d k = quiet k
given_in_quiet region.Nowhere d k = quiet k

given_quiet : (v : Option Variable) (d : Datum) (k : Known) → Quiet k (option_map_or (λ v. given_in v.region d k) v k)
given_quiet None d k = quiet k
given_quiet (Some v) d k = given_in_quiet v.region d k

put_datum_quiet : (f : FillingR) (name : ℕ) (v : VariableT) (d : Option Datum) (k : Known) → Quiet k (put_datum f name v d k)
put_datum_quiet f name v (Some d) k = given_quiet (slice_get k.variables (counted (f.number + name))) d k
put_datum_quiet f name v None k = note_quiet E305 (place_of_variable v) k refl

too_many_quiet : (v : Option VariableT) (k : Known) → Quiet k (too_many v k)
too_many_quiet None k = quiet k
too_many_quiet (Some v) k = note_quiet E305 (place_of_variable v) k refl

put_at_quiet : (f : FillingR) (c : Cursor) (v : Option VariableT) (d : Option Datum) (k : Known) → Quiet k (put_at f c v d k).1
put_at_quiet f c None d k = too_many_quiet (slice_get f.names (length f.names - 1)) k
put_at_quiet f c (Some v) d k = put_datum_quiet f c.name v d k

past_quiet : (f : FillingR) (v : Option VariableT) (k : Known) → Quiet k (past_at f v k)
past_quiet f None k = too_many_quiet (slice_get f.names (length f.names - 1)) k
past_quiet f (Some v) k = quiet k

put_characters_quiet : (f : FillingR) (c : Cursor) (xs : List ℕ) (k : Known) → Quiet k (put_characters f c xs k).1
put_characters_quiet f c [] k = quiet k
put_characters_quiet f c (x ∷ xs) k =
    let d = character_datum (scalar_at k f.shape.form c.scalar) x in
    let r = put_value f c d k in
    quiet_then (put_at_quiet f c (name_at f c k) d k) (put_characters_quiet f r.0 xs r.1)

put_single_quiet : (frames : List Frame) (f : FillingR) (c : Cursor) (v : ValueT) (k : Known) → Quiet k (put_single frames f c v k).1
put_single_quiet frames f c v k =
    let s = scalar_at k f.shape.form c.scalar in
    let d = datum_for frames s v k in
    quiet_then (datum_quiet frames s v k) (put_at_quiet f c (name_at f c d.1) d.0 d.1)

either_quiet : (b : Bool) (k : Known) (x y : Cursor × Known) → Quiet k x.1 → Quiet k y.1 → Quiet k (cond b x y).1
either_quiet true k x y p q = p
either_quiet false k x y p q = q

filled_with_quiet : (frames : List Frame) (f : FillingR) (c : Cursor) (v : ValueT) (k : Known) → Quiet k (filled_with frames f c v k).1
filled_with_quiet frames f c (NumeralV n) k = put_single_quiet frames f c (NumeralV n) k
filled_with_quiet frames f c (NegativeV n) k = put_single_quiet frames f c (NegativeV n) k
filled_with_quiet frames f c (TextV s) k =
    either_quiet (is_byte (scalar_at k f.shape.form c.scalar)) k _ _ (quiet_then (past_quiet f (name_at f c k) k) (put_characters_quiet f c (string_characters s.text) (unless_past f c k)))
    (put_single_quiet frames f c (TextV s) k)
filled_with_quiet frames f c (LocationV l) k = put_single_quiet frames f c (LocationV l) k

filled_from_quiet : (frames : List Frame) (f : FillingR) (c : Cursor) (vs : List ValueT) (k : Known) → Quiet k (filled_from frames f c vs k).1
filled_from_quiet frames f c [] k = quiet k
filled_from_quiet frames f c (v ∷ vs) k = let r = filled_with frames f c v k in quiet_then (filled_with_quiet frames f c v k) (filled_from_quiet frames f r.0 vs r.1)

one_quiet : (b : Bool) (k x y : Known) → Quiet k x → Quiet k y → Quiet k (cond b x y)
one_quiet true k x y p q = p
one_quiet false k x y p q = q

filled_quiet : (f : FillingR) (p : Position) (a : AttributesT) (frames : List Frame) (k : Known) → Quiet k (filled_element f p a frames k)
filled_quiet f p a frames k =
    one_quiet (is_placed a) k _ _ (note_unless_quiet (not (has_values a)) E305 p k refl) (filled_from_quiet frames f (record { name = 0; scalar = 0 }) (element_values a) k)

-- ---- elements

declared_at_notes : (f : Frame) (outer : List Frame) (before : List NameT) (frames : List Frame) (p : Position) (vs : List VariableT) (d : DimensionT) (t : TypeT) (a : AttributesT) (k : Known)
    → f.names ≡ [] → Enters f outer before frames → Notes (again_in_type t ++ places_again before (names_of_variables vs)) k (declared_at p vs d t a frames k).1
declared_at_notes f outer before frames p vs d t a k none e =
    let s = first_site frames a k in
    let h = shape_for p (length vs) d t (element_values a) s.1 in
    let ts = traits_for h.0 a in
    let r = declared_variables vs ts s.0 frames h.1 in
    let shaped = quiet_first (first_quiet frames a k) (shape_notes p (length vs) d t (element_values a) s.1) in
    quiet_last (notes_then shaped (variables_note f outer before frames vs ts s.0 h.1 none e)) (filled_quiet (record { names = vs; shape = h.0; number = length h.1.variables }) p a r.1 r.2)

names_note : (f : Frame) (outer : List Frame) (before : List NameT) (frames : List Frame) (vs : List VariableT) (d : DimensionT) (t : TypeT) (a : AttributesT) (k : Known)
    → f.names ≡ [] → Enters f outer before frames → Notes (again_in_names before vs t) k (declared_names vs d t a frames k).1
names_note f outer before frames [] d t a k none e = still (quiet k)
names_note f outer before frames (v ∷ vs) d t a k none e = declared_at_notes f outer before frames (place_of_variable v) (v ∷ vs) d t a k none e

element_notes : (f : Frame) (outer : List Frame) (before : List NameT) (frames : List Frame) (x : ElementT) (k : Known)
    → f.names ≡ [] → Enters f outer before frames → Notes (again_in_element before x) k (element x frames k).1
element_notes f outer before frames (LiteralElement n s) k none e = still (quiet k)
element_notes f outer before frames (VariableElement d n t a) k none e = names_note f outer before frames (declared_list d) n t a k none e

elements_note : (f : Frame) (outer : List Frame) (before : List NameT) (frames : List Frame) (es : List ElementT) (k : Known)
    → f.names ≡ [] → Enters f outer before frames → Notes (again_in_elements before es) k (with_elements es frames k).1
elements_note f outer before frames [] k none e = still (quiet k)
elements_note f outer before frames (x ∷ es) k none e =
    let r = element x frames k in
    notes_then (element_notes f outer before frames x k none e)
    (elements_note f outer (before ++ names_of_element x) r.0 es r.1 none
    (enters_then f outer before (names_of_element x) (λ (y : List Frame). (element x y k).0) frames e (λ g. one_element g outer x k)))

-- ---- procedures

handler_quiet : (p : Position) (l : Linkage) (n : Option ℕ) (k : Known) → Quiet k (note_handler p l n k)
handler_quiet p l None k = quiet k
handler_quiet p l (Some n) k = quiet_unless (is_external_linkage l || not (is_handled n k)) k _ (note_whole_quiet _ k refl)

header_quiet : (p : ProcedureR) (k : Known) → Quiet k (with_header p k)
header_quiet p k = let a = handler_quiet p.place p.linkage p.interrupt k in record { same_module = a.same_module; same_seconds = a.same_seconds; same_whole = a.same_whole }

parameter_quiet : (i : Option Item) (p : Position) (vs : List ℕ) (k : Known) → Quiet k (parameter_is i p vs k).1
parameter_quiet (Some (item.Variable v)) p vs k = quiet k
parameter_quiet (Some (item.Procedure q)) p vs k = variable_quiet _ k
parameter_quiet None p vs k = note_quiet E301 p k refl

parameters_note : (before : List NameT) (frames : List Frame) (listed : Entries) (vs : List ℕ) (ns : List NameT) (k : Known)
    → ((name : List ℕ) → finds name listed ≡ has_name name before) → Notes (places_again before ns) k (parameters_from frames listed vs ns k).1
parameters_note before frames listed vs [] k h = still (quiet k)
parameters_note before frames listed vs (n ∷ ns) k h =
    let name = normal n.text in
    let r = parameter_for frames listed vs n k in
    notes_then (quiet_last (twice_unless _ before n k (ap not (h name))) (parameter_quiet (found_here name frames) n.place vs _))
    (parameters_note (before ++ n ∷ []) frames (with_parameter n listed) r.0 ns r.1 (λ other.
    entered (finds name listed) other name (item.Variable 0) listed refl ∙ ap (λ (b : Bool). b || bytes_eq other name) (h other) ∙ sym (has_one_more other before n)))

completed_quiet : (number : ℕ) (ps : List ℕ) (body : StatementsR) (p : Option ProcedureR) (k : Known) → Quiet k (completed_at number ps body p k)
completed_quiet number ps body None k = quiet k
completed_quiet number ps body (Some p) k = record { same_module = refl; same_seconds = refl; same_whole = refl }

-- ---- statements and blocks

targets_quiet : (frames : List Frame) (before : ReferencesR) (xs : List ReferenceT) (k : Known) → Quiet k (targets_from frames before xs k).1
targets_quiet frames before [] k = quiet k
targets_quiet frames before (x ∷ xs) k = let r = reference frames x k in quiet_then (reference_quiet frames x k) (targets_quiet frames (and_reference before r.0) xs r.1)

step_quiet : (frames : List Frame) (s : Option ExpressionT) (k : Known) → Quiet k (step_for frames s k).1
step_quiet frames None k = quiet k
step_quiet frames (Some e) k = expression_quiet frames e k

path_quiet : (frames : List Frame) (n : Option NameT) (k : Known) → Quiet k (block_path frames n k).1
path_quiet frames (Some n) k = quiet k
path_quiet frames None k = record { same_module = refl; same_seconds = refl; same_whole = refl }

mutual
  statement_notes : (frames : List Frame) (s : StatementT) (k : Known) → Notes (again_in_statement s) k (statement frames s k).1
  statement_notes frames (Labelled ls b) k = basic_notes frames (last_name ls) b k

  basic_notes : (frames : List Frame) (label : Option NameT) (b : BasicT) (k : Known) → Notes (again_in_basic b) k (basic frames label b k).1
  basic_notes frames label (EmptyS p) k = still (quiet k)
  basic_notes frames label (AssignS xs e) k =
      still (quiet_then (targets_quiet frames no_references (reference_list xs) k) (expression_quiet frames e (targets_from frames no_references (reference_list xs) k).1))
  basic_notes frames label (CallS p x) k = still (reference_quiet frames x k)
  basic_notes frames label (ReturnS p) k = still (quiet k)
  basic_notes frames label (ReturnValueS p e) k = still (expression_quiet frames e k)
  basic_notes frames label (EnableS p) k = still (quiet k)
  basic_notes frames label (DisableS p) k = still (quiet k)
  basic_notes frames label (HaltS p) k = still (quiet k)
  basic_notes frames label (IfS p e s) k = quiet_first (expression_quiet frames e k) (statement_notes frames s (expression frames e k).1)
  basic_notes frames label (IfElseS p e s t) k =
      let r = expression frames e k in let q = statement frames s r.1 in
      quiet_first (expression_quiet frames e k) (notes_then (statement_notes frames s r.1) (statement_notes frames t q.1))
  basic_notes frames label (DoS p b n) k =
      let r = block_path frames label k in quiet_first (path_quiet frames label k) (block_notes r.0 (is_external frames) frames b r.1)
  basic_notes frames label (WhileS p e ss n) k = quiet_first (expression_quiet frames e k) (statements_note frames ss (expression frames e k).1)
  basic_notes frames label (CaseS p e ss n) k = quiet_first (expression_quiet frames e k) (statements_note frames ss (expression frames e k).1)
  basic_notes frames label (IterateS p i a b s ss n) k =
      let m = used frames i k in let r = expression frames a m.1 in let q = expression frames b r.1 in let u = step_for frames s q.1 in
      quiet_first (quiet_then (used_quiet frames i k) (quiet_then (expression_quiet frames a m.1) (quiet_then (expression_quiet frames b r.1) (step_quiet frames s q.1))))
      (statements_note frames ss u.1)

  statements_note : (frames : List Frame) (ss : StatementsT) (k : Known) → Notes (again_in_statements ss) k (read_statements frames ss k).1
  statements_note frames tree.no_statements k = still (quiet k)
  statements_note frames (tree.statements ss s) k = notes_then (statements_note frames ss k) (statement_notes frames s (read_statements frames ss k).1)

  block_notes : (path : List ℕ) (external : Bool) (outer : List Frame) (b : BlockT) (k : Known) → Notes (again_in_block b) k (block (frame path external ∷ outer) b k).2
  block_notes path external outer (BlockOf is ss) k =
      let r = with_items (frame path external ∷ outer) is k in notes_then (items_note path external outer is k) (statements_note r.0 ss r.1)

  items_note : (path : List ℕ) (external : Bool) (outer : List Frame) (is : ItemsT) (k : Known) → Notes (again_in_items is) k (with_items (frame path external ∷ outer) is k).1
  items_note path external outer no_items k = still (quiet k)
  items_note path external outer (items is i) k =
      let r = with_items (frame path external ∷ outer) is k in
      notes_then (items_note path external outer is k) (item_notes path external outer (names_of_items is) r.0 i r.1 (block_enters (frame path external) outer is k))

  item_notes : (path : List ℕ) (external : Bool) (outer : List Frame) (before : List NameT) (frames : List Frame) (i : ItemT) (k : Known)
      → Enters (frame path external) outer before frames → Notes (again_in_item before i) k (with_item frames i k).1
  item_notes path external outer before frames (DeclareI p es) k e = elements_note (frame path external) outer before frames (element_list es) k refl e
  item_notes path external outer before frames (ProcedureI n ps s i l b x) k e =
      let p = header (name_after (path_in frames) (normal n.text)) n (name_list ps) s i (linkage_of l) b k in
      let r = declared_procedure frames n p k in
      let inner = is_external_linkage p.linkage || is_external frames in
      let q = block (frame p.path inner ∷ r.0) b r.1 in
      let u = parameters_from q.1 [] [] (name_list ps) q.2 in
      let known = item.Procedure p.entry in
      let first = quiet_first (quiet_then (header_quiet p k) (linked_quiet frames p.linkage (normal n.text) known (with_header p k))) (declared_notes (frame path external) outer before frames n known _ refl e) in
      let inside = notes_then (block_notes p.path inner r.0 b r.1) (parameters_note [] q.1 [] [] (name_list ps) q.2 (λ name. refl)) in
      quiet_last (notes_then first inside) (completed_quiet p.entry u.0 q.0 (slice_get u.1.procedures p.entry) u.1)

-- ---- programs

main_quiet : (b : Bool) (ss : StatementsR) (k : Known) → Quiet k (with_main b ss k)
main_quiet true ss k = record { same_module = refl; same_seconds = refl; same_whole = refl }
main_quiet false ss k = quiet k

-- from one module to the next
record Adds (fs : List Found) (k q : Known) : Type 0 where
  pub are_added : seconds q ≡ seconds k ++ fs
  pub same_whole : whole_seconds q ≡ whole_seconds k

module_adds : (number : ℕ) (m : ModuleT) (k : Known) → Adds (again_in_module number m) k (with_module number m k)
module_adds number (ModuleOf n b e) k =
    let r = block (frame (normal n.text) false ∷ []) b (at_module number k) in
    let a = quiet_last (block_notes (normal n.text) false [] b (at_module number k)) (main_quiet (has_statements b) r.0 r.2) in
    record { are_added = a.are_noted; same_whole = a.same_whole }

modules_add : (number : ℕ) (ms : List ModuleT) (k : Known) → Adds (again_from number ms) k (modules_from number ms k)
modules_add number [] k = record { are_added = sym (append-nil (seconds k)); same_whole = refl }
modules_add number (m ∷ ms) k =
    let a = module_adds number m k in
    let b = modules_add (number + 1) ms (with_module number m k) in record {
      are_added = b.are_added
          ∙ ap (λ (fs : List Found). fs ++ again_from (number + 1) ms) a.are_added
          ∙ append_assoc (seconds k) (again_in_module number m) (again_from (number + 1) ms);
      same_whole = b.same_whole ∙ a.same_whole;
    }

region_joined_quiet : (m : ℕ) (v w : Option Variable) (k : Known) → Quiet k (region_joined m v w k)
region_joined_quiet m None w k = quiet k
region_joined_quiet m (Some v) None k = quiet k
region_joined_quiet m (Some v) (Some w) k = record { same_module = refl; same_seconds = refl; same_whole = refl }

entry_joined_quiet : (m : ℕ) (p : Option ProcedureR) (n : ℕ) (k : Known) → Quiet k (entry_joined m p n k)
entry_joined_quiet m None n k = quiet k
entry_joined_quiet m (Some p) n k = record { same_module = refl; same_seconds = refl; same_whole = refl }

joined_quiet : (e p : Item) (k : Known) → Quiet k (joined e p k)
joined_quiet (item.Variable m) (item.Variable n) k = region_joined_quiet m (slice_get k.variables m) (slice_get k.variables n) k
joined_quiet (item.Variable m) (item.Procedure n) k = quiet k
joined_quiet (item.Procedure m) (item.Variable n) k = quiet k
joined_quiet (item.Procedure m) (item.Procedure n) k = entry_joined_quiet m (slice_get k.procedures m) n k

either_other : (b : Bool) (f g : Found) → is_twice f.number ≡ false → is_twice g.number ≡ false → is_twice (cond b g f).number ≡ false
either_other true f g h e = e
either_other false f g h e = h

unjoined_quiet : (e : Item) (p : Option Item) (k : Known) → Quiet k (note_whole (unjoined k e p) k)
unjoined_quiet e None k = note_whole_quiet (found_item k e E306) k (found_item_other k e E306 refl)
unjoined_quiet e (Some p) k =
    let f = found_item k e E306 in let g = found_item k p E306 in
    note_whole_quiet (unjoined k e (Some p)) k (either_other (precedes g f) f g (found_item_other k e E306 refl) (found_item_other k p E306 refl))

external_quiet : (e : Item) (p : Option Item) (k : Known) → Quiet k (external_joined e p k)
external_quiet e None k = unjoined_quiet e None k
external_quiet e (Some p) k = one_quiet (agree k e p) k _ _ (joined_quiet e p k) (unjoined_quiet e (Some p) k)

externals_quiet : (es : List ExternalR) (k : Known) → Quiet k (externals_joined es k)
externals_quiet [] k = quiet k
externals_quiet (e ∷ es) k = let p = found_in e.name k.publics in quiet_then (external_quiet e.item p k) (externals_quiet es (external_joined e.item p k))

program_quiet : (b : Bool) (f : Found) (k : Known) → is_twice f.number ≡ false → Quiet k (program_fault b f k)
program_quiet b f k h = quiet_unless b k (note_whole f k) (note_whole_quiet f k h)

joins_quiet : (k : Known) → whole_seconds (modules_joined k) ≡ whole_seconds k
joins_quiet k =
    let before : Known = record k { externals = [] } in
    let q = externals_joined k.externals before in
    let p = program_fault (nat_eq (length q.mains) 1) (record { «module» = 0; place = start; number = E308 }) q in
    let a = externals_quiet k.externals before in
    let b = program_quiet (nat_eq (length q.mains) 1) (record { «module» = 0; place = start; number = E308 }) q refl in
    let c = program_quiet (have_room p.objects) (record { «module» = 0; place = start; number = E310 }) p refl in
    (quiet_then a (quiet_then b c)).same_whole

pub nothing_else_twice : (ms : List ModuleT) → (second_declarations (faults_of ms) ≡ declared_again ms) × (second_declarations (whole_faults_of ms) ≡ [])
nothing_else_twice ms = let a = modules_add 0 ms nothing_known in (a.are_added, joins_quiet (known_from ms) ∙ a.same_whole)
