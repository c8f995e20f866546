-- The initial values of what statements, procedures and modules declare have room in their objects.
use Rattle.std.proofs.Common.{◌≡◌, ℕ, ◌+◌, ◌<◌, ◌≤◌, List, [], ◌∷◌, ◌++◌, map, length, Bool, true, false, ◌||◌, not, cond, Option, Some, None, nat_eq, arith, refl, sym, ap, subst, ◌∙◌}
use Rattle.std.proofs.lemmas.Bool.{and_parts}
use Rattle.std.specs.Prelude.{slice_get, sum_by}
use Rattle.std.specs.List.{list_all, All}
use Rattle.std.proofs.lemmas.List.{length-append, length-set}
use Rattle.std.proofs.lemmas.List.Sums.{sum_by-cons}
use Rattle.std.proofs.lemmas.List.Elements.{All-nil, All-cons}
use Rattle.std.proofs.lemmas.Bool.Decides.{nat_tests}
use Rattle.word86.specs.declared.number.Number.TheVariants.{E302, E308, E310}
use Rattle.word86.specs.MemoryMap.{data_room}
use Rattle.plm_token.specs.Names.{normal}
use Rattle.plm_syntax.specs.declared.tree.Position.{Position}
use Rattle.plm_syntax.specs.declared.tree.Linkage.{Linkage}
use Rattle.plm_syntax.specs.Terminal.{NameT}
use Rattle.plm_syntax.specs.Tree.{ElementT, ElementsT, no_elements, elements, ReferenceT, ExpressionT, StatementT, Labelled, BasicT, EmptyS, AssignS, CallS, ReturnS, ReturnValueS, EnableS, DisableS, HaltS, IfS, IfElseS, DoS, WhileS, CaseS, IterateS, StatementsT, BlockT, BlockOf, ItemsT, no_items, items, ItemT, DeclareI, ProcedureI, ModuleT, ModuleOf}
use Rattle.plm_syntax.specs.Tree as tree
use Rattle.plm_decl.specs.declared.names.Datum.{Datum}
use Rattle.plm_decl.specs.declared.names.Datum.TheVariants as datum
use Rattle.plm_decl.specs.declared.names.Variable.{Variable}
use Rattle.plm_decl.specs.declared.names.Object.{Object}
use Rattle.plm_decl.specs.declared.names.Names.{Names}
use Rattle.plm_decl.specs.declared.names.Item.{Item}
use Rattle.plm_decl.specs.declared.names.Item.TheVariants as item
use Rattle.plm_decl.specs.declared.found.Found.{Found}
use Rattle.plm_decl.specs.Layout.{counted}
use Rattle.plm_decl.specs.Scope.{Entries, Frame, frame, found_here, found_in, path_in, is_external}
use Rattle.plm_decl.specs.Spelling.{name_after}
use Rattle.plm_decl.specs.Resolver.{Known, ExternalR, nothing_known}
use Rattle.plm_decl.specs.Names.{ObjectR, ProcedureR, object_of, is_external_linkage}
use Rattle.plm_decl.specs.Lists.{element_list, name_list, reference_list}
use Rattle.plm_decl.specs.Uses.{used}
use Rattle.plm_decl.specs.Resolved.{ReferencesR, no_references, StatementsR, and_reference}
use Rattle.plm_decl.specs.Expressions.{expression, reference}
use Rattle.plm_decl.specs.Linkage.{start, linked}
use Rattle.plm_decl.specs.Elements.{with_variable}
use Rattle.plm_decl.specs.Fill.{element}
use Rattle.plm_decl.specs.Statements.{targets_from, step_for, block_path, with_elements, statement, basic, statements as read_statements, block, with_items, with_item}
use Rattle.plm_syntax.specs.Spelling.{last_name}
use Rattle.plm_decl.specs.Procedures.{linkage_of, is_handled, note_handler, header, with_header, declared_procedure, in_place_of, parameter_is, with_parameter, parameter_for, parameters_from, completed_at}
use Rattle.plm_decl.specs.Joins.{agree, with_region, region_joined, entry_joined, joined, external_joined, externals_joined, bytes_from, have_room, program_fault, modules_joined, has_statements, with_main, at_module, with_module, modules_from, known_from}
use Rattle.plm_decl.specs.Values.{bytes_of_datum, values_fit}
use Rattle.plm_decl.specs.Initial.{datum_bytes, initial_bytes}
use Rattle.plm_decl.proofs.Kept.{both}
use Rattle.plm_decl.proofs.FitsShapes.{SameTables, same_tables, same_then, noted_same}
use Rattle.plm_decl.proofs.FitsFills.{fits, Extends, extends_none, extends_then, used_extends, expression_extends, reference_extends}
use Rattle.plm_decl.proofs.FitsElements.{Fits, fits_none, fits_then, fits_same, fits_extended, fits_tables, unless_same, linked_same, declared_same, element_fits}
use Rattle.plm_decl.proofs.Lying.{first_bytes}

-- ---- parts of statements

targets_extend : (frames : List Frame) (before : ReferencesR) (xs : List ReferenceT) (k : Known) → Extends k (targets_from frames before xs k).1
targets_extend frames before [] k = extends_none k
targets_extend frames before (x ∷ xs) k = let r = reference frames x k in extends_then (reference_extends frames x k) (targets_extend frames (and_reference before r.0) xs r.1)

step_extends : (frames : List Frame) (s : Option ExpressionT) (k : Known) → Extends k (step_for frames s k).1
step_extends frames None k = extends_none k
step_extends frames (Some e) k = expression_extends frames e k

path_same : (frames : List Frame) (n : Option NameT) (k : Known) → SameTables k (block_path frames n k).1
path_same frames (Some n) k = same_tables k
path_same frames None k = record { variables = refl; structures = refl; objects = refl }

with_elements_last : (es : List ElementT) (e : ElementT) (frames : List Frame) (k : Known)
    → (with_elements (es ++ e ∷ []) frames k).1 ≡ (element e (with_elements es frames k).0 (with_elements es frames k).1).1
with_elements_last [] e frames k = refl
with_elements_last (x ∷ es) e frames k = let r = element x frames k in with_elements_last es e r.0 r.1

elements_fit : (es : ElementsT) (frames : List Frame) (k : Known) → Fits k (with_elements (element_list es) frames k).1
elements_fit no_elements frames k = fits_none k
elements_fit (elements es e) frames k =
    let r = with_elements (element_list es) frames k in
    subst (λ (q : Known). Fits k q) (sym (with_elements_last (element_list es) e frames k)) (fits_then (elements_fit es frames k) (element_fits e r.0 r.1))

-- ---- procedures

handler_same : (p : Position) (l : Linkage) (n : Option ℕ) (k : Known) → SameTables k (note_handler p l n k)
handler_same p l None k = same_tables k
handler_same p l (Some n) k = unless_same (is_external_linkage l || not (is_handled n k)) k _ (record { variables = refl; structures = refl; objects = refl })

header_same : (p : ProcedureR) (k : Known) → SameTables k (with_header p k)
header_same p k =
    let here = handler_same p.place p.linkage p.interrupt k in
    record { variables = here.variables; structures = here.structures; objects = here.objects }

procedure_same : (frames : List Frame) (n : NameT) (p : ProcedureR) (k : Known) → SameTables k (declared_procedure frames n p k).1
procedure_same frames n p k =
    let q = with_header p k in
    let i = item.Procedure p.entry in
    same_then (header_same p k) (same_then (linked_same frames p.linkage (normal n.text) i q) (declared_same n i frames (linked frames p.linkage (normal n.text) i q)))

parameter_is_fits : (i : Option Item) (p : Position) (vs : List ℕ) (k : Known) → Fits k (parameter_is i p vs k).1
parameter_is_fits (Some (item.Variable v)) p vs k = fits_none k
parameter_is_fits (Some (item.Procedure q)) p vs k = placed (in_place_of (slice_get k.procedures q) p k) k
  where
    placed : (v : Variable) (k : Known) → Fits k (with_variable v k)
    placed v k = record { more = omega (arith, length-append k.variables (v ∷ [])); fit = λ h f. f }
parameter_is_fits None p vs k = fits_same refl refl

parameters_fit : (frames : List Frame) (listed : Entries) (vs : List ℕ) (ns : List NameT) (k : Known) → Fits k (parameters_from frames listed vs ns k).1
parameters_fit frames listed vs [] k = fits_none k
parameters_fit frames listed vs (n ∷ ns) k =
    let r = parameter_for frames listed vs n k in
    fits_then (fits_then (fits_tables (noted_same _ E302 n.place k)) (parameter_is_fits (found_here (normal n.text) frames) n.place vs _)) (parameters_fit frames (with_parameter n listed) r.0 ns r.1)

completed_fits : (number : ℕ) (ps : List ℕ) (body : StatementsR) (p : Option ProcedureR) (k : Known) → Fits k (completed_at number ps body p k)
completed_fits number ps body None k = fits_none k
completed_fits number ps body (Some p) k = fits_same refl refl

-- ---- statements

mutual
  statement_fits : (frames : List Frame) (s : StatementT) (k : Known) → Fits k (statement frames s k).1
  statement_fits frames (Labelled ls b) k = basic_fits frames (last_name ls) b k

  basic_fits : (frames : List Frame) (label : Option NameT) (b : BasicT) (k : Known) → Fits k (basic frames label b k).1
  basic_fits frames label (EmptyS p) k = fits_none k
  basic_fits frames label (AssignS xs e) k =
      fits_extended (extends_then (targets_extend frames no_references (reference_list xs) k) (expression_extends frames e (targets_from frames no_references (reference_list xs) k).1))
  basic_fits frames label (CallS p x) k = fits_extended (reference_extends frames x k)
  basic_fits frames label (ReturnS p) k = fits_none k
  basic_fits frames label (ReturnValueS p e) k = fits_extended (expression_extends frames e k)
  basic_fits frames label (EnableS p) k = fits_none k
  basic_fits frames label (DisableS p) k = fits_none k
  basic_fits frames label (HaltS p) k = fits_none k
  basic_fits frames label (IfS p e s) k = fits_then (fits_extended (expression_extends frames e k)) (statement_fits frames s (expression frames e k).1)
  basic_fits frames label (IfElseS p e s t) k =
      let r = expression frames e k in let q = statement frames s r.1 in
      fits_then (fits_extended (expression_extends frames e k)) (fits_then (statement_fits frames s r.1) (statement_fits frames t q.1))
  basic_fits frames label (DoS p b n) k =
      let r = block_path frames label k in
      fits_then (fits_tables (path_same frames label k)) (block_fits (frame r.0 (is_external frames) ∷ frames) b r.1)
  basic_fits frames label (WhileS p e ss n) k = fits_then (fits_extended (expression_extends frames e k)) (statements_fit frames ss (expression frames e k).1)
  basic_fits frames label (CaseS p e ss n) k = fits_then (fits_extended (expression_extends frames e k)) (statements_fit frames ss (expression frames e k).1)
  basic_fits frames label (IterateS p i a b s ss n) k =
      let m = used frames i k in let r = expression frames a m.1 in let q = expression frames b r.1 in let u = step_for frames s q.1 in
      fits_then
      (fits_extended (extends_then (used_extends frames i k) (extends_then (expression_extends frames a m.1) (extends_then (expression_extends frames b r.1) (step_extends frames s q.1)))))
      (statements_fit frames ss u.1)

  statements_fit : (frames : List Frame) (ss : StatementsT) (k : Known) → Fits k (read_statements frames ss k).1
  statements_fit frames tree.no_statements k = fits_none k
  statements_fit frames (tree.statements ss s) k = let r = read_statements frames ss k in fits_then (statements_fit frames ss k) (statement_fits frames s r.1)

  pub block_fits : (frames : List Frame) (b : BlockT) (k : Known) → Fits k (block frames b k).2
  block_fits frames (BlockOf is ss) k = let r = with_items frames is k in fits_then (items_fit frames is k) (statements_fit r.0 ss r.1)

  items_fit : (frames : List Frame) (is : ItemsT) (k : Known) → Fits k (with_items frames is k).1
  items_fit frames no_items k = fits_none k
  items_fit frames (items is i) k = let r = with_items frames is k in fits_then (items_fit frames is k) (item_fits r.0 i r.1)

  item_fits : (frames : List Frame) (i : ItemT) (k : Known) → Fits k (with_item frames i k).1
  item_fits frames (DeclareI p es) k = elements_fit es frames k
  item_fits frames (ProcedureI n ps s i l b e) k =
      let p = header (name_after (path_in frames) (normal n.text)) n (name_list ps) s i (linkage_of l) b k in
      let r = declared_procedure frames n p k in
      let inside = frame p.path (is_external_linkage p.linkage || is_external frames) in
      let q = block (inside ∷ r.0) b r.1 in
      let u = parameters_from q.1 [] [] (name_list ps) q.2 in
      fits_then (fits_tables (procedure_same frames n p k))
      (fits_then (block_fits (inside ∷ r.0) b r.1)
      (fits_then (parameters_fit q.1 [] [] (name_list ps) q.2) (completed_fits p.entry u.0 q.0 (slice_get u.1.procedures p.entry) u.1)))

-- ---- modules

main_fits : (b : Bool) (ss : StatementsR) (k : Known) → Fits k (with_main b ss k)
main_fits true ss k = fits_same refl refl
main_fits false ss k = fits_none k

module_fits : (number : ℕ) (m : ModuleT) (k : Known) → Fits k (with_module number m k)
module_fits number (ModuleOf n b e) k =
    let frames = frame (normal n.text) false ∷ [] in
    let r = block frames b (at_module number k) in
    let begin : Fits k (at_module number k) = fits_same refl refl in
    fits_then begin (fits_then (block_fits frames b (at_module number k)) (main_fits (has_statements b) r.0 r.2))

modules_fit : (number : ℕ) (ms : List ModuleT) (k : Known) → Fits k (modules_from number ms k)
modules_fit number [] k = fits_none k
modules_fit number (m ∷ ms) k =
    fits_then (module_fits number m k) (modules_fit (number + 1) ms (with_module number m k))

-- ---- joining: as many variables, the same objects

record Joins (k q : Known) : Type 0 where
  count : length q.variables ≡ length k.variables
  objects : q.objects ≡ k.objects

region_joins : (m : ℕ) (v w : Option Variable) (k : Known) → Joins k (region_joined m v w k)
region_joins m None w k = record { count = refl; objects = refl }
region_joins m (Some v) None k = record { count = refl; objects = refl }
region_joins m (Some v) (Some w) k = record { count = length-set k.variables m (with_region w.region v); objects = refl }

entry_joins : (m : ℕ) (p : Option ProcedureR) (n : ℕ) (k : Known) → Joins k (entry_joined m p n k)
entry_joins m None n k = record { count = refl; objects = refl }
entry_joins m (Some p) n k = record { count = refl; objects = refl }

item_joins : (e p : Item) (k : Known) → Joins k (joined e p k)
item_joins (item.Variable m) (item.Variable n) k = region_joins m (slice_get k.variables m) (slice_get k.variables n) k
item_joins (item.Variable m) (item.Procedure n) k = record { count = refl; objects = refl }
item_joins (item.Procedure m) (item.Variable n) k = record { count = refl; objects = refl }
item_joins (item.Procedure m) (item.Procedure n) k = entry_joins m (slice_get k.procedures m) n k

where_joins : (b : Bool) (k x y : Known) → Joins k x → Joins k y → Joins k (cond b x y)
where_joins true k x y p q = p
where_joins false k x y p q = q

external_joins : (e : Item) (p : Option Item) (k : Known) → Joins k (external_joined e p k)
external_joins e None k = record { count = refl; objects = refl }
external_joins e (Some p) k = where_joins (agree k e p) k _ _ (item_joins e p k) (record { count = refl; objects = refl })

externals_join : (es : List ExternalR) (k : Known) → Joins k (externals_joined es k)
externals_join [] k = record { count = refl; objects = refl }
externals_join (e ∷ es) k =
    let q = external_joined e.item (found_in e.name k.publics) k in
    let one = external_joins e.item (found_in e.name k.publics) k in
    let rest = externals_join es q in
    record { count = rest.count ∙ one.count; objects = rest.objects ∙ one.objects }

fault_joins : (b : Bool) (f : Found) (k : Known) → Joins k (program_fault b f k)
fault_joins true f k = record { count = refl; objects = refl }
fault_joins false f k = record { count = refl; objects = refl }

modules_join : (k : Known) → Joins k (modules_joined k)
modules_join k =
    let q = externals_joined k.externals (record k { externals = [] }) in
    let p = program_fault (nat_eq (length q.mains) 1) (record { «module» = 0; place = start; number = E308 }) q in
    let one = externals_join k.externals (record k { externals = [] }) in
    let two = fault_joins (nat_eq (length q.mains) 1) (record { «module» = 0; place = start; number = E308 }) q in
    let three = fault_joins (have_room p.objects) (record { «module» = 0; place = start; number = E310 }) p in
    record { count = three.count ∙ two.count ∙ one.count; objects = three.objects ∙ two.objects ∙ one.objects }

-- ---- the whole program

-- objects that have room in RAM are small enough
small_fit : (b : ℕ) (os : List ObjectR) → bytes_from b os ≤ data_room → list_all fits os ≡ true → list_all values_fit os ≡ true
small_fit b [] h f = refl
small_fit b (o ∷ os) h f =
    let first = first_bytes (counted (b + o.size)) os in
    let small : o.size ≤ data_room = omega (arith, first, h) in
    both (here o small (and_parts (fits o) (list_all fits os) f).0) (small_fit (counted (b + o.size)) os h (and_parts (fits o) (list_all fits os) f).1)
  where
    here : (o : ObjectR) → o.size ≤ data_room → fits o ≡ true → values_fit o ≡ true
    here o small f = grind (arith, nat_tests)

-- what is read
pub known_fit : (ms : List ModuleT) → length (known_from ms).variables < 18446744073709551616 → have_room (known_from ms).objects ≡ true → list_all values_fit (known_from ms).objects ≡ true
known_fit ms short room =
    let most : bytes_from 0 (known_from ms).objects ≤ data_room = grind (arith, nat_tests) in
    small_fit 0 (known_from ms).objects most ((modules_fit 0 ms nothing_known).fit short refl)

-- and what is joined of it
pub joined_fit : (k : Known) → (have_room k.objects ≡ true → list_all values_fit k.objects ≡ true) → have_room (modules_joined k).objects ≡ true → list_all values_fit (modules_joined k).objects ≡ true
joined_fit k fit room =
    let same = (modules_join k).objects in
    ap (list_all values_fit) same ∙ fit (ap have_room (sym same) ∙ room)

pub initial_values_fit : (ms : List ModuleT)
    → length (modules_joined (known_from ms)).variables < 18446744073709551616 → have_room (modules_joined (known_from ms)).objects ≡ true
    → list_all values_fit (modules_joined (known_from ms)).objects ≡ true
initial_values_fit ms short room =
    let count = (modules_join (known_from ms)).count in
    joined_fit (known_from ms) (known_fit ms (omega (arith, count, short))) room

-- ---- bytes

module _ (offsets : List ℕ) (vs : List Variable) where
  length_of_datum : (d : Datum) → length (datum_bytes offsets vs d) ≡ bytes_of_datum d
  length_of_datum (datum.Byte b) = refl
  length_of_datum (datum.Word w) = refl
  length_of_datum (datum.Variable v n) = refl
  length_of_datum (datum.Constants o) = refl

  length_of_bytes : (ds : List Datum) → length (initial_bytes offsets vs ds) ≡ sum_by bytes_of_datum ds
  length_of_bytes [] = refl
  length_of_bytes (d ∷ ds) =
      let rest = length_of_bytes ds in
      let one = length_of_datum d in
      let all = sum_by-cons bytes_of_datum d ds in
      omega (arith, length-append (datum_bytes offsets vs d) (initial_bytes offsets vs ds), one, rest, all)

  bytes_have_room : (o : ObjectR) → values_fit o ≡ true → length (initial_bytes offsets vs o.initial) ≤ o.size
  bytes_have_room o h =
      let count = length_of_bytes o.initial in
      let few : sum_by bytes_of_datum o.initial ≤ o.size = grind (arith, nat_tests) in
      omega (arith, count, few)

  all_bytes_fit : (os : List Object) → list_all values_fit (map object_of os) ≡ true → All (λ o. length (initial_bytes offsets vs o.initial.items) ≤ o.size) os
  all_bytes_fit [] h = All-nil (λ o. length (initial_bytes offsets vs o.initial.items) ≤ o.size)
  all_bytes_fit (o ∷ os) h =
      All-cons (λ o. length (initial_bytes offsets vs o.initial.items) ≤ o.size) o os
      (bytes_have_room (object_of o) (and_parts (values_fit (object_of o)) (list_all values_fit (map object_of os)) h).0)
      (all_bytes_fit os (and_parts (values_fit (object_of o)) (list_all values_fit (map object_of os)) h).1)

pub initial_bytes_fit : (names : Names) (offsets : List ℕ) → All (λ o. length (initial_bytes offsets names.variables.items o.initial.items) ≤ o.size) names.objects.items
initial_bytes_fit names offsets = all_bytes_fit offsets names.variables.items names.objects.items names.values_fit
