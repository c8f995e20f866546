-- A checked program has well-formed trees.
use Rattle.std.proofs.lemmas.Bool.{and_parts, leb-true, false_from_ne_true, not-true, eqb-true}
use Rattle.std.proofs.Common.{◌≡◌, ℕ, zero, suc, ◌+◌, ◌*◌, Bool, true, false, not, cond, nat_eq, List, [], ◌∷◌, map, length, slice_get, Option, Some, None, is_some, option_map, inl, inr, refl, sym, ap, ◌∙◌, subst, arith, true≢false}
use Rattle.std.specs.Prelude.{◌&&◌, ◌||◌, nat_lt, slice_index, Contains}
use Rattle.std.specs.List.{list_all}
use Rattle.std.proofs.lemmas.Bool.Decides.{nat_tests}
use Rattle.std.proofs.lemmas.List.{length-map}
use Rattle.std.proofs.lemmas.List.Elements.{Contains-append_right}
use Rattle.std.proofs.lemmas.Option.{slice_get-map, same_Some, none-some}
use Rattle.lower.proofs.Faultless.{none_of_both, holds_without_fault}
use Rattle.word86.specs.declared.number.Number.TheVariants.{E401}
use Rattle.word86.specs.Page.{page_size}
use Rattle.plm_decl.specs.declared.layout.ScalarType.{ScalarType}
use Rattle.plm_decl.specs.declared.names.Names.{Names}
use Rattle.plm_decl.specs.declared.names.Object.{Object}
use Rattle.plm_decl.specs.declared.names.Region.{Region}
use Rattle.plm_decl.specs.declared.names.Region.TheVariants as region
use Rattle.plm_decl.specs.declared.names.Variable.{Variable}
use Rattle.plm_decl.specs.declared.found.Found.{Found}
use Rattle.plm_decl.specs.Layout.{elements, structure_of}
use Rattle.plm_decl.specs.Names.{ProcedureR, object_of, declared_location_of, main_of}
use Rattle.plm_decl.specs.Placement.{sizes_of}
use Rattle.plm_decl.specs.Ranges.{Counts, variable_within, object_within, procedure_within}
use Rattle.plm_decl.specs.Regions.{size_at}
use Rattle.plm_decl.specs.Lying.{region_holds, view_lies}
use Rattle.plm_type.specs.declared.checked.Program.{Program}
use Rattle.plm_type.specs.declared.effects.Effect.{Effect}
use Rattle.plm_type.specs.declared.effects.Effect.TheVariants.{Calls, Enables}
use Rattle.plm_type.specs.declared.statements.Around.TheVariants as stands
use Rattle.plm_type.specs.Checked.{AreTyped}
use Rattle.plm_type.specs.Effects as effects
use Rattle.plm_type.specs.Interrupts.{called, body_effects, text_graph, IsCalled, is_for_interrupt, has_interface}
use Rattle.plm_type.specs.Programs.{declared_procedures, main_tree, procedures_of}
use Rattle.plm_type.specs.Reach.{row_of}
use Rattle.plm_type.specs.Rest.{Statements, End, Procedure}
use Rattle.plm_type.specs.Statements.{may_return_value, is_placed_scalar, index_for, of_parameter, of_entry, is_entry, of_locations}
use Rattle.plm_decl.specs.Names.{is_external_linkage}
use Rattle.plm_type.specs.Trees.{entry_of}
use Rattle.lower.proofs.Typed.{statements_for, of_statements, of_parameters, of_body, of_procedure, of_procedures, of_main, parameters_for, body_for, procedure_for}
use Rattle.lower.specs.Expressions.{are_giving}
use Rattle.lower.specs.Statements.{Kind, OfMain}
use Rattle.lower.specs.Lowering.{has_vector, serves, kind_of, vectors_of}
use Rattle.plm_decl.specs.Names.{vector_of}
use Rattle.lower.specs.Checked.{IsWellFormed, CheckedLaw}
use Rattle.lower.specs.Well.{AllLie, ScalarLies, IsCall, MayReturn, MayReturnValue, AreStatements}
use Rattle.lower.proofs.TypedPlaces.{LiesAt, IsLying, AreLying, placed_lies}
use Rattle.lower.proofs.TypedTrees.{Callable, AllCallable}
use Rattle.lower.proofs.TypedStatements.{statements_well}
use Rattle.lower.proofs.Unvalued.{settled}

-- ---- lists

-- what a test finds of all is so of each
all_at : {X : Type 0} (f : X → Bool) (xs : List X) (k : ℕ) (x : X) → list_all f xs ≡ true → slice_get xs k ≡ Some x → f x ≡ true
all_at f [] k x h e = absurd (none-some x e)
all_at f (y ∷ ys) zero x h e = subst (λ z. f z ≡ true) (same_Some y x e) (and_parts (f y) (list_all f ys) h).0
all_at f (y ∷ ys) (suc k) x h e = all_at f ys k x (and_parts (f y) (list_all f ys) h).1 e

there : {X : Type 0} (xs : List X) (k : ℕ) → nat_lt k (length xs) ≡ true → (x : X) × (slice_get xs k ≡ Some x)
there [] k h = absurd (grind (arith, nat_tests))
there (x ∷ xs) zero h = (x, refl)
there (x ∷ xs) (suc k) h = there xs k (grind (arith, nat_tests))

-- ---- variables

size_is : (os : List Object) (k : ℕ) → size_at (map object_of os) k ≡ slice_index (map (λ o. o.size) os) k
size_is [] k = refl
size_is (o ∷ os) zero = refl
size_is (o ∷ os) (suc k) = size_is os k

held_lies : (os : List Object) (n : ℕ) (r : Region) → region_holds (map object_of os) n r ≡ true → LiesAt (map (λ o. o.size) os) n r
held_lies os n (region.Ram k i) h = let le = leb-true (i + n) (size_at (map object_of os) k) h in omega (arith, le, size_is os k)
held_lies os n (region.Screen page i) h = leb-true (i + n) page_size h
held_lies os n (region.Based b) h = tt
held_lies os n region.Nowhere h = tt

are_lying : (names : Names) → AreLying (sizes_of names) names.variables.items
are_lying names k v e = held_lies names.objects.items (v.stride * elements v.dimension) v.region (all_at (view_lies (map object_of names.objects.items)) names.variables.items k v names.views_lie e)

-- ---- parameters

parameter_lies : (sizes : List ℕ) (m : ℕ) (o : Option Variable) (v : Variable) → o ≡ Some v → IsLying sizes v → of_parameter false m o ≡ [] → ScalarLies sizes (index_for o)
parameter_lies sizes m None v e lies f = absurd (none-some v e)
parameter_lies sizes m (Some w) v e lies f = placed_lies sizes w (subst (IsLying sizes) (sym (same_Some w v e)) lies) (holds_without_fault m (is_placed_scalar w) E401 w.place f)

parameters_lie : (sizes : List ℕ) (vs : List Variable) → AreLying sizes vs → (m : ℕ) (xs : List ℕ) → of_parameters vs false m xs ≡ [] → list_all (λ x. nat_lt x (length vs)) xs ≡ true → AllLie sizes (parameters_for vs xs)
parameters_lie sizes vs all m [] f h = tt
parameters_lie sizes vs all m (x ∷ xs) f h =
    let both = none_of_both (of_parameter false m (slice_get vs x)) (of_parameters vs false m xs) f in
    let within = and_parts (nat_lt x (length vs)) (list_all (λ y. nat_lt y (length vs)) xs) h in
    let at = there vs x within.0 in
    (parameter_lies sizes m (slice_get vs x) at.0 at.1 (all x at.0 at.1) both.0, parameters_lie sizes vs all m xs both.1 within.1)

as_many_parameters : (vs : List Variable) (xs : List ℕ) → length (parameters_for vs xs) ≡ length xs
as_many_parameters vs [] = refl
as_many_parameters vs (x ∷ xs) = ap suc (as_many_parameters vs xs)

-- ---- tests

unserved : (external : Bool) (i : Option ℕ) → is_some i ≡ false → has_vector (Some (cond external None i)) ≡ false
unserved true i h = refl
unserved false None h = refl
unserved false (Some n) h = absurd (true≢false h)

for_interrupt : (external : Bool) (i : Option ℕ) → has_vector (Some (cond external None i)) ≡ true → is_some i ≡ true
for_interrupt true i h = absurd (true≢false (sym h))
for_interrupt false None h = absurd (true≢false (sym h))
for_interrupt false (Some n) h = refl

untyped : (i r n : Bool) → i ≡ true → ((i && (r || n)) ≡ true → ⊥) → r ≡ false
untyped true true n e h = absurd (h refl)
untyped true false n e h = refl
untyped false r n e h = absurd (true≢false (sym e))

module _ (program : Program) (names : Names) (typed : AreTyped program names) where
  abbrev vs : List Variable
  vs = names.variables.items

  abbrev ps : List ProcedureR
  ps = declared_procedures names

  abbrev MayCall : ℕ → Type 0
  MayCall p = serves (vectors_of names) p ≡ false

  -- ---- procedures without a fault

  sound_parts : (of_procedures vs ps (sizes_of names) ps ≡ []) × (of_main vs ps (sizes_of names) (main_of names.main) ≡ [])
  sound_parts = none_of_both _ _ (none_of_both (of_locations vs ps (sizes_of names) (map declared_location_of names.locations.items)) _ typed.no_fault).1

  each_sound : (qs : List ProcedureR) → of_procedures vs ps (sizes_of names) qs ≡ [] → (k : ℕ) (p : ProcedureR) → slice_get qs k ≡ Some p → of_procedure vs ps (sizes_of names) p ≡ []
  each_sound [] f k p e = absurd (none-some p e)
  each_sound (q ∷ qs) f zero p e = subst (λ (z : ProcedureR). of_procedure vs ps (sizes_of names) z ≡ []) (same_Some q p e) (none_of_both (of_procedure vs ps (sizes_of names) q) (of_procedures vs ps (sizes_of names) qs) f).0
  each_sound (q ∷ qs) f (suc k) p e = each_sound qs (none_of_both (of_procedure vs ps (sizes_of names) q) (of_procedures vs ps (sizes_of names) qs) f).1 k p e

  sound : (k : ℕ) (p : ProcedureR) → slice_get ps k ≡ Some p → of_procedure vs ps (sizes_of names) p ≡ []
  sound k p e = each_sound ps sound_parts.0 k p e

  within : (k : ℕ) (p : ProcedureR) → slice_get ps k ≡ Some p → list_all (λ x. nat_lt x (length vs)) p.parameters ≡ true
  within k p e =
      let c : Counts = record { variables = length vs; structures = length (map structure_of names.structures.items); objects = length (map object_of names.objects.items); procedures = length ps } in
      let first = and_parts (list_all (variable_within c) vs) _ names.in_range in
      let second = and_parts (list_all (object_within c) (map object_of names.objects.items)) _ first.1 in
      let third = and_parts (list_all (procedure_within c) ps) _ second.1 in
      (and_parts (list_all (λ x. nat_lt x (length vs)) p.parameters) _ (all_at (procedure_within c) ps k p third.0 e)).0

  -- ---- calls

  own_parameters : (k : ℕ) (p : ProcedureR) → slice_get ps k ≡ Some p → is_external_linkage p.linkage ≡ false → AllLie (sizes_of names) (parameters_for vs p.parameters)
  own_parameters k p e own =
      let f = (none_of_both (of_parameters vs (is_external_linkage p.linkage) p.module p.parameters) _ (sound k p e)).0 in
      parameters_lie (sizes_of names) vs (are_lying names) p.module p.parameters (subst (λ (b : Bool). of_parameters vs b p.module p.parameters ≡ []) own f) (within k p e)

  vector_at : (k : ℕ) (p : ProcedureR) → slice_get ps k ≡ Some p → slice_get (vectors_of names) k ≡ Some (vector_of p)
  vector_at k p e = slice_get-map vector_of ps k ∙ ap (option_map vector_of) e

  entered : (n k : ℕ) (o : Option ProcedureR) → slice_get ps k ≡ o → is_entry n o ≡ true → is_for_interrupt o ≡ false → IsCall (sizes_of names) (procedures_of names) MayCall k n
  entered n k None e h i = absurd (true≢false (sym h))
  entered n k (Some p) e h i =
      let both = and_parts (not (is_external_linkage p.linkage)) (nat_eq (length p.parameters) n) h in (
        procedure_for vs ps (sizes_of names) p,
        slice_get-map (procedure_for vs ps (sizes_of names)) ps k ∙ ap (option_map (procedure_for vs ps (sizes_of names))) e,
        as_many_parameters vs p.parameters ∙ eqb-true (length p.parameters) n both.1,
        own_parameters k p e (not-true (is_external_linkage p.linkage) both.0),
        ap has_vector (vector_at k p e) ∙ unserved (is_external_linkage p.linkage) p.interrupt i,
      )

  entry_sound : (k : ℕ) (p : ProcedureR) → slice_get ps k ≡ Some p → is_entry (length p.parameters) (slice_get ps p.entry) ≡ true
  entry_sound k p e =
      let behind = (none_of_both (of_parameters vs (is_external_linkage p.linkage) p.module p.parameters) _ (sound k p e)).1 in
      holds_without_fault p.module (is_entry (length p.parameters) (slice_get ps p.entry)) E401 p.place (none_of_both (of_entry ps p) _ (none_of_both _ _ behind).1).0

  callable_at : (q : ℕ) (o : Option ProcedureR) → slice_get ps q ≡ o → is_for_interrupt (slice_get ps (entry_of o)) ≡ false → Callable ps (sizes_of names) (procedures_of names) MayCall o
  callable_at q None e h = tt
  callable_at q (Some p) e h = entered (length p.parameters) p.entry (slice_get ps p.entry) refl (entry_sound q p e) h

  texts_callable : (es : List Effect) → ((k : ℕ) → Contains (called ps es) k → is_for_interrupt (slice_get ps k) ≡ false) → AllCallable ps (sizes_of names) (procedures_of names) MayCall es
  texts_callable [] h = tt
  texts_callable (Calls q ∷ es) h =
      let entry = entry_of (slice_get ps q) in (
        callable_at q (slice_get ps q) refl (h entry (1, omega arith, refl)),
        texts_callable es (λ k c. h k (Contains-append_right (q ∷ entry ∷ []) (called ps es) k c)),
      )
  texts_callable (Enables ∷ es) h = texts_callable es h

  uncalled : (k : ℕ) → IsCalled names k → is_for_interrupt (slice_get ps k) ≡ false
  uncalled k c = false_from_ne_true (is_for_interrupt (slice_get ps k)) (λ h. typed.none_misused k (inr (h, c)))

  -- ---- bodies

  value_if : (c : Bool) (t : Option ScalarType) → (c ≡ true → is_some t ≡ false) → (v : Option ScalarType) → may_return_value (stands.Procedure t) v ≡ true → MayReturnValue (sizes_of names) (procedures_of names) MayCall (kind_of c true)
  value_if true None h v e = absurd (true≢false (sym e))
  value_if true (Some t) h v e = absurd (true≢false (h refl))
  value_if false t h v e = tt

  return_if : (c : Bool) → MayReturn (sizes_of names) (procedures_of names) MayCall (kind_of c true)
  return_if true = tt
  return_if false = tt

  serving_untyped : (q : ℕ) (p : ProcedureR) → slice_get ps q ≡ Some p → serves (vectors_of names) q ≡ true → is_some p.returned ≡ false
  serving_untyped q p e h =
      let i = for_interrupt (is_external_linkage p.linkage) p.interrupt (ap has_vector (sym (vector_at q p e)) ∙ h) in
      untyped (is_some p.interrupt) (is_some p.returned) (not (nat_eq (length p.parameters) 0)) i
      (λ misused. typed.none_misused q (inl (ap has_interface e ∙ misused)))

  body_if : (c : Bool) (k : Kind) (fs : List Found) (es : List Effect) (tree : Statements)
      → (fs ≡ [] → AllCallable ps (sizes_of names) (procedures_of names) MayCall es → AreStatements (sizes_of names) (procedures_of names) MayCall k tree)
      → cond c [] fs ≡ [] → AllCallable ps (sizes_of names) (procedures_of names) MayCall (cond c [] es) → AreStatements (sizes_of names) (procedures_of names) MayCall k (cond c End tree)
  body_if true k fs es tree h f g = tt
  body_if false k fs es tree h f g = h f g

  own_body : (q : ℕ) (p : ProcedureR) → slice_get ps q ≡ Some p → AreStatements (sizes_of names) (procedures_of names) MayCall (kind_of (serves (vectors_of names) q) true) (body_for vs ps (sizes_of names) p)
  own_body q p e =
      let behind = (none_of_both (of_parameters vs (is_external_linkage p.linkage) p.module p.parameters) _ (sound q p e)).1 in
      let faultless = (none_of_both _ (of_body vs ps (sizes_of names) p) (none_of_both (of_entry ps p) _ (none_of_both _ _ behind).1).1).1 in
      let row : row_of (slice_get (text_graph ps) q) ≡ called ps (body_effects p) = ap row_of (slice_get-map (λ (z : ProcedureR). called ps (body_effects z)) ps q ∙ ap (option_map (λ (z : ProcedureR). called ps (body_effects z))) e) in
      let calls = texts_callable (body_effects p) (λ k c. uncalled k (inr (q, subst (λ (l : List ℕ). Contains l k) (sym row) c))) in
      body_if (is_external_linkage p.linkage) (kind_of (serves (vectors_of names) q) true) (of_statements vs ps (sizes_of names) p.module (stands.Procedure p.returned) p.body) (effects.of_statements p.body) (statements_for vs ps (sizes_of names) p.module (stands.Procedure p.returned) p.body)
      (λ f g. statements_well ps (sizes_of names) (procedures_of names) MayCall vs (are_lying names) p.module (stands.Procedure p.returned) (kind_of (serves (vectors_of names) q) true)
      (λ h. return_if (serves (vectors_of names) q)) (value_if (serves (vectors_of names) q) p.returned (serving_untyped q p e)) p.body f g)
      faultless calls

  body_at : (q : ℕ) (y : Procedure) (o : Option ProcedureR) → slice_get ps q ≡ o → option_map (procedure_for vs ps (sizes_of names)) o ≡ Some y → AreStatements (sizes_of names) (procedures_of names) MayCall (kind_of (serves (vectors_of names) q) (are_giving y.body)) y.body
  body_at q y None e h = absurd (none-some y h)
  body_at q y (Some p) e h = subst (λ (z : Procedure). AreStatements (sizes_of names) (procedures_of names) MayCall (kind_of (serves (vectors_of names) q) (are_giving z.body)) z.body) (same_Some _ y h)
      (settled (sizes_of names) (procedures_of names) MayCall (serves (vectors_of names) q) (body_for vs ps (sizes_of names) p) (own_body q p e))

  main_calls_nothing_else : AllCallable ps (sizes_of names) (procedures_of names) MayCall (effects.of_statements (main_of names.main).statements)
  main_calls_nothing_else = texts_callable (effects.of_statements (main_of names.main).statements) (λ k c. uncalled k (inl c))

  main_well : AreStatements (sizes_of names) (procedures_of names) MayCall OfMain (main_tree names)
  main_well =
      let main = main_of names.main in
      statements_well ps (sizes_of names) (procedures_of names) MayCall vs (are_lying names) main.module stands.Main OfMain
      (λ h. true≢false (sym h)) (λ t h. true≢false (sym h)) main.statements sound_parts.1 main_calls_nothing_else

  trees_are_well : IsWellFormed names
  trees_are_well = record {
    each = length-map ps vector_of ∙ sym (length-map ps (procedure_for vs ps (sizes_of names)));
    bodies = λ q y e. body_at q y (slice_get ps q) refl (sym (slice_get-map (procedure_for vs ps (sizes_of names)) ps q) ∙ e);
    main_body = main_well;
  }

pub checked_well : CheckedLaw
checked_well program names typed = trees_are_well program names typed
