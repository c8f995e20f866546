-- What is needed along the instructions is what the paths of calls push and change.
use Rattle.std.proofs.Common.{◌≡◌, ℕ, zero, suc, ◌+◌, ◌≤◌, ◌<◌, List, [], ◌∷◌, ◌++◌, take, Some, slice_get, refl, sym, ap, ◌∙◌, subst, arith, ◌⊎◌, inl, inr}
use Rattle.std.proofs.lemmas.Bool.{cases_lt}
use Rattle.std.proofs.lemmas.Option.{none-some}
use Rattle.icode.specs.declared.instruction.Instruction.{Instruction}
use Rattle.icode.specs.declared.instruction.Instruction.TheVariants as op
use Rattle.icode.specs.declared.code.Routine.{Routine}
use Rattle.icode.specs.declared.code.Routine.TheVariants.{Procedure}
use Rattle.icode.specs.declared.code.Position.{Position}
use Rattle.icode.specs.declared.registers.Registers.{Registers}
use Rattle.icode.specs.Registers.{joined, changes}
use Rattle.icode.specs.Heights.{behind, height}
use Rattle.icode.specs.Counted.{Calls, IsPath, words_along, IsDepth, HasAll, IsChanged}
use Rattle.frames.specs.declared.need.Need.{Need}
use Rattle.frames.specs.Inner.Need.{need}
use Rattle.frames.proofs.Registers.{joined_none, has_self, has_through}
use Rattle.frames.proofs.Needing as needing

-- t is what each procedure needs; place is where it stands in the order, below n
module _ (code : Routine → List Instruction) (count n : ℕ) (place : ℕ → ℕ) (t : ℕ → Need)
    (solved : (q : ℕ) → t q ≡ need t 0 (code (Procedure q)))
    (later : (p q k : ℕ) → q < count → slice_get (code (Procedure p)) k ≡ Some (op.Invoke q) → place q < place p)
    (beyond : (q : ℕ) → count ≤ q → code (Procedure q) ≡ [])
    (below : (q : ℕ) → q < count → place q < n) where
  abbrev pub of : Routine → Need
  of r = need t 0 (code r)

  called : (p : Position) (r : Routine) (c : Calls code p r) → t c.0 ≡ of r
  called p r c = solved c.0 ∙ ap of c.2

  -- ---- no path pushes more

  climbs : (begin : Routine) (ps : List Position) (r : Routine) → IsPath code begin ps r → (of r).words + words_along code ps ≤ (of begin).words
  climbs begin [] r path = omega (arith, ap (λ s. (of s).words) path)
  climbs begin (p ∷ ps) r path =
      let c = path.0 in
      omega (arith, ap (λ m. m.words) (called p r c), needing.calls t 0 (code p.routine) p.index c.0 c.1, climbs begin ps p.routine path.1)

  bounds : (begin : Routine) (ps : List Position) (r : Routine) (k : ℕ) → IsPath code begin ps r → height (code r) k + words_along code ps ≤ (of begin).words
  bounds begin ps r k path = omega (arith, needing.heights t 0 (code r) k, climbs begin ps r path)

  -- ---- what one pushes

  abbrev Reached : Routine → ℕ → Type 0
  Reached begin m = (ps : List Position) × (r : Routine) × (k : ℕ) × IsPath code begin ps r × (height (code r) k + words_along code ps ≡ m)

  abbrev at : Routine → ℕ → Position
  at r k = record { routine = r; index = k }

  longer : (r : Routine) (k q : ℕ) → slice_get (code r) k ≡ Some (op.Invoke q) → (ps : List Position) (s : Routine) → IsPath code (Procedure q) ps s → IsPath code r (ps ++ at r k ∷ []) s
  longer r k q e [] s path = ((q, e, path), refl)
  longer r k q e (p ∷ ps) s path = (path.0, longer r k q e ps p.routine path.1)

  words_longer : (ps : List Position) (p : Position) → words_along code (ps ++ p ∷ []) ≡ words_along code ps + (height (code p.routine) p.index + 1)
  words_longer [] p = omega arith
  words_longer (q ∷ ps) p = omega (arith, words_longer ps p)

  through : (r : Routine) (k q m : ℕ) → slice_get (code r) k ≡ Some (op.Invoke q) → Reached (Procedure q) m → Reached r (height (code r) k + 1 + m)
  through r k q m e d = (d.0 ++ at r k ∷ [], d.1, d.2, longer r k q e d.0 d.1 d.3, omega (arith, d.4, words_longer d.0 (at r k)))

  -- a callee stands lower in the order, if there is one
  abbrev pub AreBelow : ℕ → Routine → Type 0
  AreBelow m r = (k q : ℕ) → q < count → slice_get (code r) k ≡ Some (op.Invoke q) → place q < m

  lower_by : (m p : ℕ) → (p < count → place p < suc m) → (p < count) ⊎ (count ≤ p) → AreBelow m (Procedure p)
  lower_by m p h (inl lt) k q l e = omega (arith, h lt, later p q k l e)
  lower_by m p h (inr ge) k q l e = absurd (none-some (op.Invoke q) (ap (λ xs. slice_get xs k) (sym (beyond p ge)) ∙ e))

  lower : (m : ℕ) (r : Routine) (k q : ℕ) → AreBelow (suc m) r → slice_get (code r) k ≡ Some (op.Invoke q) → AreBelow m (Procedure q)
  lower m r k q h e = lower_by m q (λ l. h k q l e) (cases_lt q count)

  -- of a procedure that there is not
  absent_by : (q : ℕ) → (q < count → ⊥) → (q < count) ⊎ (count ≤ q) → code (Procedure q) ≡ []
  absent_by q h (inl lt) = absurd (h lt)
  absent_by q h (inr ge) = beyond q ge

  absent : (r : Routine) (k q : ℕ) → AreBelow 0 r → slice_get (code r) k ≡ Some (op.Invoke q) → code (Procedure q) ≡ []
  absent r k q h e = absent_by q (λ l. omega (arith, h k q l e)) (cases_lt q count)

  empty : (q : ℕ) → code (Procedure q) ≡ [] → Reached (Procedure q) (of (Procedure q)).words
  empty q e = ([], Procedure q, 0, refl, omega (arith, ap (λ xs. height xs 0) e, ap (λ xs. (need t 0 xs).words) e))

  summed : (r : Routine) (k q : ℕ) → slice_get (code r) k ≡ Some (op.Invoke q) → behind 0 (take k (code r)) + 1 + (t q).words ≡ (of r).words → Reached (Procedure q) (of (Procedure q)).words → Reached r (of r).words
  summed r k q e s d = subst (Reached r) (omega (arith, s, ap (λ m. m.words) (solved q))) (through r k q (of (Procedure q)).words e d)

  deep : (m : ℕ) (r : Routine) → AreBelow m r → needing.Attained t 0 (code r) (of r).words → Reached r (of r).words
  deep m r h (inl a) = ([], r, a.0, refl, omega (arith, a.1))
  deep zero r h (inr a) = summed r a.0 a.1 a.2 a.3 (empty a.1 (absent r a.0 a.1 h a.2))
  deep (suc m) r h (inr a) = summed r a.0 a.1 a.2 a.3 (deep m (Procedure a.1) (lower m r a.0 a.1 h a.2) (needing.attained t 0 (code (Procedure a.1))))

  all_below : (r : Routine) → AreBelow n r
  all_below r k q l e = below q l

  pub is_depth : (r : Routine) → IsDepth code r (of r).words
  is_depth r = record { bounds = bounds r; reached = deep n r (all_below r) (needing.attained t 0 (code r)) }

  -- ---- registers

  carries : (begin : Routine) (ps : List Position) (r : Routine) → IsPath code begin ps r → joined (of begin).registers (of r).registers ≡ (of begin).registers
  carries begin [] r path = subst (λ s. joined (of begin).registers (of s).registers ≡ (of begin).registers) path (has_self (of begin).registers)
  carries begin (p ∷ ps) r path =
      let c = path.0 in
      let one : joined (of p.routine).registers (of r).registers ≡ (of p.routine).registers =
      subst (λ m. joined (of p.routine).registers m.registers ≡ (of p.routine).registers) (called p r c) (needing.has_callees t 0 (code p.routine) p.index c.0 c.1) in
      has_through (of begin).registers (of p.routine).registers (of r).registers (carries begin ps p.routine path.1) one

  all_of : (begin : Routine) → HasAll code begin (of begin).registers
  all_of begin ps r k x path e = has_through (of begin).registers (of r).registers (changes x) (carries begin ps r path) (needing.has_changes t 0 (code r) k x e)

  none_of : (g : Registers) (q : ℕ) → code (Procedure q) ≡ [] → joined g (t q).registers ≡ g
  none_of g q e = subst (λ m. joined g m.registers ≡ g) (sym (solved q ∙ ap (need t 0) e)) (joined_none g)

  fewest : (begin : Routine) (g : Registers) → HasAll code begin g → (m : ℕ) (r : Routine) (ps : List Position) → IsPath code begin ps r → AreBelow m r → joined g (of r).registers ≡ g
  fewest begin g all zero r ps path h =
      needing.within t g 0 (code r) (λ k x e. all ps r k x path e) (λ k q e. none_of g q (absent r k q h e))
  fewest begin g all (suc m) r ps path h =
      needing.within t g 0 (code r) (λ k x e. all ps r k x path e)
      (λ k q e. subst (λ o. joined g o.registers ≡ g) (sym (solved q)) (fewest begin g all m (Procedure q) (at r k ∷ ps) ((q, e, refl), path) (lower m r k q h e)))

  pub is_changed : (r : Routine) → IsChanged code r (of r).registers
  is_changed r = record { all = all_of r; least = λ g h. fewest r g h n r [] refl (all_below r) }
