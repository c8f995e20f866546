-- The parts of a program: their order, their numbers, and the registers that are saved.
use Rattle.std.proofs.Common.{◌≡◌, ℕ, zero, suc, ◌+◌, ◌<◌, ◌≤◌, List, [], ◌∷◌, ◌++◌, length, drop, Bool, true, false, Option, Some, None, refl, sym, ap, ◌∙◌, subst, arith, slice_get, append_assoc}
use Rattle.std.specs.Prelude.{nat_eq, cond, slice_index_or}
use Rattle.std.proofs.lemmas.List.{append-nil}
use Rattle.std.proofs.lemmas.Option.{slice_get_within, none-some}
use Rattle.icode.specs.declared.code.Procedure as declared
use Rattle.icode.specs.declared.code.Routine.{Routine}
use Rattle.icode.specs.declared.code.Routine.TheVariants.{Main, Procedure, Unserved, Nowhere}
use Rattle.icode.specs.declared.code.Code.{Code}
use Rattle.icode.specs.declared.instruction.Instruction.{Instruction}
use Rattle.icode.specs.declared.instruction.Instruction.TheVariants as op
use Rattle.icode.specs.declared.registers.Registers.{Registers}
use Rattle.icode.specs.Code.{code_of}
use Rattle.icode.specs.Counted.{IsChanged, IsHandler, HasVector}
use Rattle.icode.specs.Heights.{target}
use Rattle.icode.specs.Made.{IsMade, constant_in, cases_of, is_case}
use Rattle.icode.specs.Registers.{none}
use Rattle.frames.specs.Counting.{AreSaved}
use Rattle.select.specs.declared.part.Part.{Part}
use Rattle.select.specs.Rows.{routine, first_of, plain, saved, registers_of}
use Rattle.select.specs.Selection.{procedures_in, section, sections_before, routines, vector_in, AreSavedBy, IsPartOf, ArePartsOf}
use Rattle.select.specs.Inner.Selecting.{registers_if, saves_in, Below, AllBelow}
use Rattle.select.proofs.Steps.{rows_same}

-- ---- routines that there are

both_below : (n : ℕ) (xs ys : List Routine) → AllBelow n xs → AllBelow n ys → AllBelow n (xs ++ ys)
both_below n [] ys h e = e
both_below n (x ∷ xs) ys h e = (h.0, both_below n xs ys h.1 e)

procedures_below : (n k number : ℕ) (ps : List declared.Procedure) → number + length ps ≤ n → AllBelow n (procedures_in k number ps)
procedures_below n k number [] l = tt
procedures_below n k number (p ∷ ps) l = by (procedures_below n k (number + 1) ps (omega (arith, l))) (nat_eq p.module k)
  where
    by : AllBelow n (procedures_in k (number + 1) ps) → (b : Bool) → AllBelow n (cond b (Procedure number ∷ procedures_in k (number + 1) ps) (procedures_in k (number + 1) ps))
    by later true = (omega (arith, l), later)
    by later false = later

module _ (c : Code) where
  abbrev many : ℕ
  many = length c.procedures.items

  main_below : (b : Bool) → AllBelow many (cond b (Main ∷ []) [])
  main_below true = (tt, tt)
  main_below false = tt

  section_below : (k : ℕ) → AllBelow many (section c k)
  section_below k =
      both_below many (procedures_in k 0 c.procedures.items) (cond (nat_eq c.main_module k) (Main ∷ []) []) (procedures_below many k 0 c.procedures.items (omega arith)) (main_below (nat_eq c.main_module k))

  sections_below : (k : ℕ) → AllBelow many (sections_before c k)
  sections_below zero = tt
  sections_below (suc k) = both_below many (sections_before c k) (section c k) (sections_below k) (section_below k)

  pub routines_below : AllBelow many (routines c)
  routines_below = both_below many (sections_before c c.sections) (Unserved ∷ []) (sections_below c.sections) (tt, tt)

-- the one at a place
pub below_at : (n : ℕ) (rs : List Routine) (k : ℕ) (r : Routine) (more : List Routine) → AllBelow n rs → drop k rs ≡ r ∷ more → Below n r
below_at n [] zero r more h e = absurd (cc)
below_at n [] (suc k) r more h e = absurd (cc)
below_at n (x ∷ xs) zero r more h e = subst (first_below n) e h.0
  where
    first_below : ℕ → List Routine → Type 0
    first_below n [] = ⊥
    first_below n (y ∷ ys) = Below n y
below_at n (x ∷ xs) (suc k) r more h e = below_at n xs k r more h.1 e

-- ---- the procedures of a section

-- one procedure is looked at
pub one_more : (k number : ℕ) (ps : List declared.Procedure) (p : declared.Procedure) (more : List declared.Procedure) (old new whole : List Routine) → ps ≡ p ∷ more
    → new ≡ old ++ cond (nat_eq p.module k) (Procedure number ∷ []) [] → old ++ procedures_in k number ps ≡ whole → new ++ procedures_in k (number + 1) more ≡ whole
one_more k number ps p more old new whole at is before =
    ap (λ z. z ++ procedures_in k (number + 1) more) is ∙ by (nat_eq p.module k) ∙ ap (λ z. old ++ procedures_in k number z) (sym at) ∙ before
  where
    by : (b : Bool) → (old ++ cond b (Procedure number ∷ []) []) ++ procedures_in k (number + 1) more ≡ old ++ cond b (Procedure number ∷ procedures_in k (number + 1) more) (procedures_in k (number + 1) more)
    by true = append_assoc old (Procedure number ∷ []) (procedures_in k (number + 1) more)
    by false = ap (λ z. z ++ procedures_in k (number + 1) more) (append-nil old)

-- all are
pub section_done : (c : Code) (k number : ℕ) (left : List declared.Procedure) (old now new : List Routine) → left ≡ [] → now ++ procedures_in k number left ≡ old ++ procedures_in k 0 c.procedures.items
    → new ≡ now ++ cond (nat_eq c.main_module k) (Main ∷ []) [] → new ≡ old ++ section c k
section_done c k number left old now new none so is =
    let main = cond (nat_eq c.main_module k) (Main ∷ []) [] in
    is ∙ ap (λ z. z ++ main) (sym (append-nil now) ∙ ap (λ z. now ++ procedures_in k number z) (sym none) ∙ so) ∙ append_assoc old (procedures_in k 0 c.procedures.items) main

pub next_section : (c : Code) (k : ℕ) → sections_before c k ++ section c k ≡ sections_before c (k + 1)
next_section c k = let next : suc k ≡ k + 1 = omega arith in ap (sections_before c) next

-- ---- made code

made_end : IsMade (op.Finish ∷ [])
made_end = record { numbered = numbered; cases = cases; inside = inside }
  where
    numbered : (k : ℕ) (x : Instruction) → slice_get (op.Finish ∷ []) k ≡ Some x → constant_in x < 65536
    numbered zero x e = subst low e (omega arith)
      where
        low : Option Instruction → Type 0
        low (Some y) = constant_in y < 65536
        low None = Unit {0}
    numbered (suc k) x e = absurd (none-some x e)

    cases : (k j : ℕ) (x : Instruction) → slice_get (op.Finish ∷ []) k ≡ Some x → j < cases_of x → is_case (slice_get (op.Finish ∷ []) (k + 1 + j)) ≡ true
    cases zero j x e l = let m = subst few e refl in absurd (omega (arith, l, m))
      where
        few : Option Instruction → Type 0
        few (Some y) = cases_of y ≡ 0
        few None = Unit {0}
    cases (suc k) j x e l = absurd (none-some x e)

    inside : (k t : ℕ) (x : Instruction) → slice_get (op.Finish ∷ []) k ≡ Some x → target x (k + 1) ≡ Some t → t < 1
    inside zero t x e f = absurd (none-some t (subst nowhere e refl ∙ f))
      where
        nowhere : Option Instruction → Type 0
        nowhere (Some y) = None ≡ target y (0 + 1)
        nowhere None = Unit {0}
    inside (suc k) t x e f = absurd (none-some x e)

made_none : IsMade []
made_none = record { numbered = λ k x e. absurd (none-some x e); cases = λ k j x e l. absurd (none-some x e); inside = λ k t x e f. absurd (none-some x e) }

pub made : (c : Code) (r : Routine) → IsMade (code_of c r)
made c Main = c.main_made
made c (Procedure q) = c.made q
made c Unserved = made_end
made c Nowhere = made_none

-- ---- parts

-- the numbers of parts are told by a list
pub same_routine : (f h : ℕ → ℕ) (saves : Registers) (all : List Instruction) → ((q : ℕ) → f q ≡ h q) → routine f saves all ≡ routine h saves all
same_routine f h saves all same =
    ap (λ z. plain (saved (registers_of saves)) ++ z) (rows_same (first_of saves all) (first_of saves all) f h saves (λ k. refl) same 0 all)

-- one part more
pub parts_more : (c : Code) (saves : Routine → Registers) (first k : ℕ) (rs : List Routine) (r : Routine) (p : Part) (old new : List Part) → drop k rs ≡ r ∷ drop (k + 1) rs → new ≡ old ++ p ∷ [] → IsPartOf c saves (first + k) r p
    → ((ps : List Part) → ArePartsOf c saves (first + k) (drop k rs) ps → ArePartsOf c saves first rs (old ++ ps))
    → (ps : List Part) → ArePartsOf c saves (first + (k + 1)) (drop (k + 1) rs) ps → ArePartsOf c saves first rs (new ++ ps)
parts_more c saves first k rs r p old new at is h before ps e =
    let number : first + (k + 1) ≡ first + k + 1 = omega arith in
    let lists : new ++ ps ≡ old ++ (p ∷ ps) = ap (λ z. z ++ ps) is ∙ append_assoc old (p ∷ []) ps in
    let rest = subst (λ n. ArePartsOf c saves n (drop (k + 1) rs) ps) number e in
    subst (ArePartsOf c saves first rs) (sym lists) (before (p ∷ ps) (subst (λ z. ArePartsOf c saves (first + k) z (p ∷ ps)) (sym at) (h, rest)))

-- all of them
pub parts_done : (c : Code) (saves : Routine → Registers) (first k : ℕ) (rs : List Routine) (parts : List Part) → drop k rs ≡ []
    → ((ps : List Part) → ArePartsOf c saves (first + k) (drop k rs) ps → ArePartsOf c saves first rs (parts ++ ps)) → ArePartsOf c saves first rs parts
parts_done c saves first k rs parts none all = subst (ArePartsOf c saves first rs) (append-nil parts) (all [] (subst (λ z. ArePartsOf c saves (first + k) z []) (sym none) tt))

-- ---- registers

with_vector : (o : Option ℕ) (g : Registers) (v : ℕ) → o ≡ Some v → registers_if o g ≡ g
with_vector o g v e = ap (λ z. registers_if z g) e

module _ (c : Code) (gs : List Registers) (are : AreSaved c gs) where
  pub saved_by : AreSavedBy c (saves_in c gs)
  saved_by = record { interrupts = interrupts; others = others; unserved = refl }
    where
      interrupts : (q : ℕ) → IsHandler c (Procedure q) → IsChanged (code_of c) (Procedure q) (saves_in c gs (Procedure q))
      interrupts q h = by (slice_get c.procedures.items q) refl
        where
          by : (o : Option declared.Procedure) → slice_get c.procedures.items q ≡ o → IsChanged (code_of c) (Procedure q) (saves_in c gs (Procedure q))
          by (Some p) e =
              let v : HasVector (Some p) = subst HasVector e h in
              let is : saves_in c gs (Procedure q) ≡ slice_index_or gs q none = ap (λ z. registers_if (vector_in z) (slice_index_or gs q none)) e ∙ with_vector p.vector (slice_index_or gs q none) v.0 v.1 in
              subst (IsChanged (code_of c) (Procedure q)) (sym is) (are q (slice_get_within c.procedures.items q p e))
          by None e = absurd (subst HasVector e h)

      others : (r : Routine) → (IsHandler c r → ⊥) → saves_in c gs r ≡ none
      others Main h = refl
      others (Procedure q) h = by (slice_get c.procedures.items q) refl
        where
          vectorless : (p : declared.Procedure) (o : Option ℕ) → p.vector ≡ o → slice_get c.procedures.items q ≡ Some p → saves_in c gs (Procedure q) ≡ none
          vectorless p (Some v) f e = absurd (h (subst HasVector (sym e) (v, f)))
          vectorless p None f e = ap (λ z. registers_if (vector_in z) (slice_index_or gs q none)) e ∙ ap (λ z. registers_if z (slice_index_or gs q none)) f

          by : (o : Option declared.Procedure) → slice_get c.procedures.items q ≡ o → saves_in c gs (Procedure q) ≡ none
          by (Some p) e = vectorless p p.vector refl e
          by None e = ap (λ z. registers_if (vector_in z) (slice_index_or gs q none)) e
      others Unserved h = refl
      others Nowhere h = refl
