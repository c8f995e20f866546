-- Where main, the interrupts and calls lead: to the parts of their routines.
use Rattle.std.proofs.Common.{◌≡◌, ℕ, suc, ◌+◌, Bool, true, false, cond, inl, inr, List, [], ◌∷◌, Option, Some, None, refl, sym, ap, ◌∙◌, subst, arith}
use Rattle.std.specs.Prelude.{nat_eq, slice_get, position}
use Rattle.std.specs.List.{position_from}
use Rattle.std.proofs.lemmas.Bool.{eqb-true, eq-eqb, ne_eqb, cases_eq, false_from_ne_true}
use Rattle.std.proofs.lemmas.Iterator.Adapters.{position_from-zero}
use Rattle.icode.specs.declared.code.Procedure as declared
use Rattle.icode.specs.declared.code.Routine.{Routine}
use Rattle.icode.specs.declared.code.Routine.TheVariants.{Main, Procedure, Unserved, Nowhere}
use Rattle.icode.specs.declared.code.Code.{Code}
use Rattle.icode.specs.declared.registers.Registers.{Registers}
use Rattle.icode.specs.Code.{procedure_or_none, serving}
use Rattle.icode.specs.Vectors.{is_number}
use Rattle.select.specs.declared.part.Entry.{Entry}
use Rattle.select.specs.declared.part.Entry.TheVariants as entry
use Rattle.select.specs.declared.part.Part.{Part}
use Rattle.select.specs.Selection.{ArePartsOf, entry_of, entry_for, vector_in, is_procedure}
use Rattle.layout_link.specs.Tasks.{is_main, is_unserved, is_serving}
use Rattle.plm86.specs.Inner.Assembled.{is_main_routine}
use Rattle.plm86.proofs.Composition.Sections.{is_last_routine}

-- the first that passes does
pub first_passes : {A : Type 0} (test : A → Bool) (xs : List A) (k m : ℕ) → position_from test k xs ≡ Some m → (x : A) × (i : ℕ) × (m ≡ k + i) × (slice_get xs i ≡ Some x) × (test x ≡ true)
first_passes test [] k m e = absurd (cc)
first_passes {A = A} test (x ∷ xs) k m e = cases (test x) refl e (first_passes test xs (k + 1) m)
  where
    number_or : Option ℕ → ℕ
    number_or (Some n) = n
    number_or None = 0

    cases : (b : Bool) → test x ≡ b → cond b (Some k) (position_from test (k + 1) xs) ≡ Some m
        → (position_from test (k + 1) xs ≡ Some m → (y : A) × (i : ℕ) × (m ≡ k + 1 + i) × (slice_get xs i ≡ Some y) × (test y ≡ true))
        → (y : A) × (i : ℕ) × (m ≡ k + i) × (slice_get (x ∷ xs) i ≡ Some y) × (test y ≡ true)
    cases true is f later = let same : k ≡ m = ap number_or f in (x, 0, omega (arith, same), refl, is)
    cases false is f later = let found = later f in (found.0, suc found.1, omega (arith, found.2), found.3, found.4)

module _ (c : Code) where
  -- a part with such an entry stands where its routine stands
  module _ (saves : Routine → Registers) (test : Entry → Bool) (passes : Routine → Bool) (same : (r : Routine) → test (entry_of c r) ≡ passes r) where
    from_parts : (own : ℕ) (rs : List Routine) (ps : List Part) (k : ℕ) → ArePartsOf c saves own rs ps → position_from (λ (p : Part). test p.entry) k ps ≡ position_from passes k rs
    from_parts own [] [] k are = refl
    from_parts own [] (p ∷ ps) k are = absurd are
    from_parts own (r ∷ rs) [] k are = absurd are
    from_parts own (r ∷ rs) (p ∷ ps) k are =
        ap (λ b. cond b (Some k) (position_from (λ (x : Part). test x.entry) (k + 1) ps)) (ap test are.0.entry_is ∙ same r)
        ∙ ap (λ o. cond (passes r) (Some k) o) (from_parts (own + 1) rs ps (k + 1) are.1)

    pub parts_position : (own : ℕ) (rs : List Routine) (ps : List Part) → ArePartsOf c saves own rs ps → position (λ (p : Part). test p.entry) ps ≡ position passes rs
    parts_position own rs ps are = position_from-zero (λ (p : Part). test p.entry) ps ∙ from_parts own rs ps 0 are ∙ sym (position_from-zero passes rs)

  -- ---- main, and vectors without a procedure

  module _ (test : Entry → Bool) (vectors : (v : ℕ) → test (entry.Vector v) ≡ false) (calls : test entry.Call ≡ false) where
    no_procedure : (q : ℕ) (o : Option ℕ) → test (entry_for c q o) ≡ false
    no_procedure q (Some v) = cases (is_procedure q (serving c v))
      where
        cases : (b : Bool) → test (cond b (entry.Vector v) entry.Call) ≡ false
        cases true = vectors v
        cases false = calls
    no_procedure q None = calls

  pub main_entry : (r : Routine) → is_main (entry_of c r) ≡ is_main_routine r
  main_entry Main = refl
  main_entry (Procedure q) = no_procedure is_main (λ v. refl) refl q (vector_in (slice_get c.procedures.items q))
  main_entry Unserved = refl
  main_entry Nowhere = refl

  pub last_entry : (r : Routine) → is_unserved (entry_of c r) ≡ is_last_routine r
  last_entry Main = refl
  last_entry (Procedure q) = no_procedure is_unserved (λ v. refl) refl q (vector_in (slice_get c.procedures.items q))
  last_entry Unserved = refl
  last_entry Nowhere = refl

  -- ---- vectors

  -- what serves a vector has it
  abbrev Serves : (vector procedure : ℕ) → Type 0
  Serves v q = (p : declared.Procedure) × (slice_get c.procedures.items q ≡ Some p) × (is_number p.vector v ≡ true)

  pub first_serves : (v q : ℕ) → position (λ (p : declared.Procedure). is_number p.vector v) c.procedures.items ≡ Some q → Serves v q
  first_serves v q e =
      let test = λ (p : declared.Procedure). is_number p.vector v in
      let found = first_passes test c.procedures.items 0 q (sym (position_from-zero test c.procedures.items) ∙ e) in
      let at : found.1 ≡ q = omega (arith, found.2) in
      (found.0, sym (ap (slice_get c.procedures.items) at) ∙ found.3, found.4)

  it_serves : (v q : ℕ) → is_procedure q (serving c v) ≡ true → Serves v q
  it_serves v q e = cases (position (λ (p : declared.Procedure). is_number p.vector v) c.procedures.items) refl e
    where
      cases : (o : Option ℕ) → position (λ (p : declared.Procedure). is_number p.vector v) c.procedures.items ≡ o → is_procedure q (procedure_or_none o) ≡ true → Serves v q
      cases (Some n) f is = first_serves v q (f ∙ ap Some (eqb-true n q is))
      cases None f is = absurd (cc)

  vector_or : Option ℕ → Option declared.Procedure → Option ℕ
  vector_or d (Some p) = p.vector
  vector_or d None = d

  -- a procedure without this vector does not serve it
  serves_not : (v q : ℕ) (p : declared.Procedure) → slice_get c.procedures.items q ≡ Some p → is_number p.vector v ≡ false → is_procedure q (serving c v) ≡ false
  unfolding vector_or
  serves_not v q p e not = false_from_ne_true (is_procedure q (serving c v)) refused
    where
      refused : is_procedure q (serving c v) ≡ true → ⊥
      refused t =
          let other = it_serves v q t in
          let same : other.0.vector ≡ p.vector = ap (vector_or None) (sym other.1 ∙ e) in
          let is : true ≡ false = sym other.2 ∙ ap (λ z. is_number z v) same ∙ not in
          absurd (cc)

  procedure_entry : (v q : ℕ) → is_serving v (entry_of c (Procedure q)) ≡ is_procedure q (serving c v)
  procedure_entry v q = at (slice_get c.procedures.items q) refl
    where
      chosen : (b : Bool) → is_serving v (cond b (entry.Vector v) entry.Call) ≡ b
      chosen true = eq-eqb v v refl
      chosen false = refl

      passed : (b : Bool) (w : ℕ) → (w ≡ v → ⊥) → is_serving v (cond b (entry.Vector w) entry.Call) ≡ false
      passed true w other = ne_eqb w v other
      passed false w other = refl

      with_vector : (p : declared.Procedure) → slice_get c.procedures.items q ≡ Some p → (o : Option ℕ) → p.vector ≡ o → is_serving v (entry_for c q o) ≡ is_procedure q (serving c v)
      with_vector p e None is = sym (serves_not v q p e (ap (λ z. is_number z v) is))
      with_vector p e (Some w) is =
          elim (cases_eq w v) [
            | inl same ↦ subst (λ z. is_serving v (cond (is_procedure q (serving c z)) (entry.Vector z) entry.Call) ≡ is_procedure q (serving c v)) (sym same) (chosen (is_procedure q (serving c v)))
            | inr other ↦ passed (is_procedure q (serving c w)) w other ∙ sym (serves_not v q p e (ap (λ z. is_number z v) is ∙ ne_eqb w v other))
          ]

      missing : slice_get c.procedures.items q ≡ None → is_procedure q (serving c v) ≡ true → ⊥
      missing e t = let other = it_serves v q t in let both : None ≡ Some other.0 = sym e ∙ other.1 in absurd (cc)

      at : (o : Option declared.Procedure) → slice_get c.procedures.items q ≡ o → is_serving v (entry_for c q (vector_in o)) ≡ is_procedure q (serving c v)
      at (Some p) e = with_vector p e p.vector refl
      at None e = sym (false_from_ne_true (is_procedure q (serving c v)) (missing e))

  either_way : (a b : ℕ) → nat_eq a b ≡ nat_eq b a
  either_way a b =
      elim (cases_eq a b) [
        | inl same ↦ eq-eqb a b same ∙ sym (eq-eqb b a (sym same))
        | inr other ↦ ne_eqb a b other ∙ sym (ne_eqb b a (λ e. other (sym e)))
      ]

  -- where a procedure serves the vector, its part alone has that entry
  pub served_entry : (v q : ℕ) → serving c v ≡ Procedure q → (r : Routine) → is_serving v (entry_of c r) ≡ is_procedure q r
  served_entry v q e Main = refl
  served_entry v q e (Procedure p) = procedure_entry v p ∙ ap (is_procedure p) e ∙ either_way q p
  served_entry v q e Unserved = refl
  served_entry v q e Nowhere = refl

  -- where none does, no part has it
  pub unserved_entry : (v : ℕ) → serving c v ≡ Unserved → (r : Routine) → is_serving v (entry_of c r) ≡ false
  unserved_entry v e Main = refl
  unserved_entry v e (Procedure p) = procedure_entry v p ∙ ap (is_procedure p) e
  unserved_entry v e Unserved = refl
  unserved_entry v e Nowhere = refl
