-- The order of a program's parts: each routine that there is has one part.
use Rattle.std.proofs.Common.{◌≡◌, ℕ, zero, suc, ◌+◌, ◌<◌, ◌≤◌, Bool, true, false, cond, inl, inr, List, [], ◌∷◌, ◌++◌, length, Option, Some, None, refl, sym, ap, ◌∙◌, subst, arith}
use Rattle.std.specs.Prelude.{nat_eq, slice_get, position}
use Rattle.std.specs.List.{position_from}
use Rattle.std.proofs.lemmas.Iterator.Adapters.{position_from-zero}
use Rattle.std.proofs.lemmas.Bool.{eq-eqb, ne_eqb, cases_eq}
use Rattle.icode.specs.declared.code.Procedure as declared
use Rattle.icode.specs.declared.code.Routine.{Routine}
use Rattle.icode.specs.declared.code.Routine.TheVariants.{Main, Procedure, Unserved}
use Rattle.icode.specs.declared.code.Code.{Code}
use Rattle.select.specs.Selection.{procedures_in, is_procedure, part_in, section, sections_before, routines, part_of}
use Rattle.plm86.specs.Inner.Assembled.{is_main_routine}

-- ---- a test that one routine alone passes

module _ (f : Routine → Bool) where
  -- none of these passes
  abbrev pub Absent : List Routine → Type 0
  Absent [] = Unit {0}
  Absent (r ∷ rs) = (f r ≡ false) × Absent rs

  -- the n-th passes, and no other one
  abbrev pub Alone : List Routine → (n : ℕ) → Type 0
  Alone [] n = ⊥
  Alone (r ∷ rs) zero = (f r ≡ true) × Absent rs
  Alone (r ∷ rs) (suc n) = (f r ≡ false) × Alone rs n

  absent-append : (xs ys : List Routine) → Absent xs → Absent ys → Absent (xs ++ ys)
  absent-append [] ys a b = b
  absent-append (x ∷ xs) ys a b = (a.0, absent-append xs ys a.1 b)

  alone_before : (xs ys : List Routine) (n : ℕ) → Alone xs n → Absent ys → Alone (xs ++ ys) n
  alone_before [] ys n a b = absurd a
  alone_before (x ∷ xs) ys zero a b = (a.0, absent-append xs ys a.1 b)
  alone_before (x ∷ xs) ys (suc n) a b = (a.0, alone_before xs ys n a.1 b)

  alone_behind : (xs ys : List Routine) (n : ℕ) → Absent xs → Alone ys n → Alone (xs ++ ys) (length xs + n)
  alone_behind [] ys n a b = let e : n ≡ 0 + n = omega arith in subst (λ z. Alone ys z) e b
  alone_behind (x ∷ xs) ys n a b =
      let e : suc (length xs + n) ≡ suc (length xs) + n = omega arith in
      subst (λ z. Alone (x ∷ (xs ++ ys)) z) e (a.0, alone_behind xs ys n a.1 b)

  absent_from : (xs : List Routine) (k : ℕ) → Absent xs → position_from f k xs ≡ None
  absent_from [] k a = refl
  absent_from (x ∷ xs) k a = ap (λ b. cond b (Some k) (position_from f (k + 1) xs)) a.0 ∙ absent_from xs (k + 1) a.1

  alone_from : (xs : List Routine) (n k : ℕ) → Alone xs n → position_from f k xs ≡ Some (k + n)
  alone_from [] n k a = absurd a
  alone_from (x ∷ xs) zero k a = let e : k ≡ k + 0 = omega arith in ap (λ b. cond b (Some k) (position_from f (k + 1) xs)) a.0 ∙ ap Some e
  alone_from (x ∷ xs) (suc n) k a =
      let e : k + 1 + n ≡ k + suc n = omega arith in
      ap (λ b. cond b (Some k) (position_from f (k + 1) xs)) a.0 ∙ alone_from xs n (k + 1) a.1 ∙ ap Some e

  pub absent_position : (xs : List Routine) → Absent xs → position f xs ≡ None
  absent_position xs a = position_from-zero f xs ∙ absent_from xs 0 a

  pub alone_position : (xs : List Routine) (n : ℕ) → Alone xs n → position f xs ≡ Some n
  alone_position xs n a = let e : 0 + n ≡ n = omega arith in position_from-zero f xs ∙ alone_from xs n 0 a ∙ ap Some e

  -- the one that passes
  pub alone_is : (xs : List Routine) (n : ℕ) → Alone xs n → (r : Routine) × (slice_get xs n ≡ Some r) × (f r ≡ true)
  alone_is [] n a = absurd a
  alone_is (x ∷ xs) zero a = (x, refl, a.0)
  alone_is (x ∷ xs) (suc n) a = alone_is xs n a.1

  -- ---- sections

  -- a routine that stands in the section m alone
  module _ (c : Code) (m : ℕ) (elsewhere : (k : ℕ) → (m ≡ k → ⊥) → Absent (section c k)) (here : (k : ℕ) → m ≡ k → (n : ℕ) × Alone (section c k) n) where
    before : (k : ℕ) → k ≤ m → Absent (sections_before c k)
    before zero le = tt
    before (suc k) le = absent-append (sections_before c k) (section c k) (before k (omega (arith, le))) (elsewhere k (omega (arith, le)))

    one_more : (k : ℕ) → m < suc k → (m < k → (n : ℕ) × Alone (sections_before c k) n) → (n : ℕ) × Alone (sections_before c (suc k)) n
    one_more k lt earlier =
        elim (cases_eq m k) [
          | inl same ↦
              let there = here k same in
              (length (sections_before c k) + there.0, alone_behind (sections_before c k) (section c k) there.0 (before k (omega (arith, same))) there.1)
          | inr other ↦
              let found = earlier (omega (arith, lt, other)) in
              (found.0, alone_before (sections_before c k) (section c k) found.0 found.1 (elsewhere k other))
        ]

    behind : (k : ℕ) → m < k → (n : ℕ) × Alone (sections_before c k) n
    behind zero lt = absurd (omega (arith, lt))
    behind (suc k) lt = one_more k lt (behind k)

    pub in_routines : m < c.sections → f Unserved ≡ false → (n : ℕ) × Alone (routines c) n
    in_routines lt not_last =
        let found = behind c.sections lt in
        (found.0, alone_before (sections_before c c.sections) (Unserved ∷ []) found.0 found.1 (not_last, tt))

  -- no procedure passes
  module _ (fails : (q : ℕ) → f (Procedure q) ≡ false) where
    pub no_procedures : (k : ℕ) (ps : List declared.Procedure) (number : ℕ) → Absent (procedures_in k number ps)
    no_procedures k [] number = tt
    no_procedures k (p ∷ ps) number = cases (nat_eq p.module k) (no_procedures k ps (number + 1))
      where
        cases : (b : Bool) → Absent (procedures_in k (number + 1) ps) → Absent (cond b (Procedure number ∷ procedures_in k (number + 1) ps) (procedures_in k (number + 1) ps))
        cases true a = (fails number, a)
        cases false a = a

    module _ (c : Code) (not_main : f Main ≡ false) where
      not_in_section : (k : ℕ) → Absent (section c k)
      not_in_section k = absent-append (procedures_in k 0 c.procedures.items) (cond (nat_eq c.main_module k) (Main ∷ []) []) (no_procedures k c.procedures.items 0) (cases (nat_eq c.main_module k))
        where
          cases : (b : Bool) → Absent (cond b (Main ∷ []) [])
          cases true = (not_main, tt)
          cases false = tt

      not_in_sections : (k : ℕ) → Absent (sections_before c k)
      not_in_sections zero = tt
      not_in_sections (suc k) = absent-append (sections_before c k) (section c k) (not_in_sections k) (not_in_section k)

      pub last_alone : f Unserved ≡ true → Alone (routines c) (length (sections_before c c.sections))
      last_alone passes =
          let e : length (sections_before c c.sections) + 0 ≡ length (sections_before c c.sections) = omega arith in
          subst (λ z. Alone (routines c) z) e (alone_behind (sections_before c c.sections) (Unserved ∷ []) 0 (not_in_sections c.sections) (passes, tt))

-- ---- main

abbrev main_in : Code → ℕ → List Routine
main_in c k = cond (nat_eq c.main_module k) (Main ∷ []) []

main_here : (c : Code) (k : ℕ) → c.main_module ≡ k → (n : ℕ) × Alone is_main_routine (section c k) n
main_here c k same =
    let procedures = procedures_in k 0 c.procedures.items in
    let main : Alone is_main_routine (main_in c k) 0 = subst (λ b. Alone is_main_routine (cond b (Main ∷ []) []) 0) (sym (eq-eqb c.main_module k same)) (refl, tt) in
    (length procedures + 0, alone_behind is_main_routine procedures (main_in c k) 0 (no_procedures is_main_routine (λ q. refl) k c.procedures.items 0) main)

main_elsewhere : (c : Code) (k : ℕ) → (c.main_module ≡ k → ⊥) → Absent is_main_routine (section c k)
main_elsewhere c k other =
    absent-append is_main_routine (procedures_in k 0 c.procedures.items) (main_in c k) (no_procedures is_main_routine (λ q. refl) k c.procedures.items 0)
    (subst (λ b. Absent is_main_routine (cond b (Main ∷ []) [])) (sym (ne_eqb c.main_module k other)) tt)

pub main_alone : (c : Code) → c.main_module < c.sections → (n : ℕ) × Alone is_main_routine (routines c) n
main_alone c lt = in_routines is_main_routine c c.main_module (main_elsewhere c) (main_here c) lt refl

-- ---- procedures

abbrev module_or : ℕ → Option declared.Procedure → ℕ
module_or d (Some p) = p.module
module_or d None = d

module _ (k : ℕ) where
  -- where the first of them has a number, those after it may stand
  abbrev first_of_them : (of_section : Bool) (number : ℕ) → List declared.Procedure → List Routine
  first_of_them b number ps = cond b (Procedure number ∷ procedures_in k (number + 1) ps) (procedures_in k (number + 1) ps)

  one_absent : (b : Bool) (number q : ℕ) (ps : List declared.Procedure) → (number ≡ q → ⊥) → Absent (is_procedure q) (procedures_in k (number + 1) ps) → Absent (is_procedure q) (first_of_them b number ps)
  one_absent true number q ps other a = (ne_eqb number q other, a)
  one_absent false number q ps other a = a

  one_alone : (b : Bool) (number q : ℕ) (ps : List declared.Procedure) → (number ≡ q → ⊥) → (n : ℕ) × Alone (is_procedure q) (procedures_in k (number + 1) ps) n
      → (n : ℕ) × Alone (is_procedure q) (first_of_them b number ps) n
  one_alone true number q ps other a = (suc a.0, (ne_eqb number q other, a.1))
  one_alone false number q ps other a = a

  -- those that are counted from one on do not have the numbers before
  numbers_above : (ps : List declared.Procedure) (number q : ℕ) → q < number → Absent (is_procedure q) (procedures_in k number ps)
  numbers_above [] number q lt = tt
  numbers_above (p ∷ ps) number q lt = one_absent (nat_eq p.module k) number q ps (λ e. omega (arith, lt, e)) (numbers_above ps (number + 1) q (omega (arith, lt)))

  -- a procedure of another module does not stand there
  procedure_elsewhere : (ps : List declared.Procedure) (number i q : ℕ) (p : declared.Procedure) → slice_get ps i ≡ Some p → number + i ≡ q → (p.module ≡ k → ⊥)
      → Absent (is_procedure q) (procedures_in k number ps)
  procedure_elsewhere [] number i q p e at other = tt
  procedure_elsewhere (x ∷ xs) number zero q p e at other =
      let same : x.module ≡ p.module = ap (module_or 0) e in
      subst (λ b. Absent (is_procedure q) (first_of_them b number xs)) (sym (ne_eqb x.module k (λ z. other (sym same ∙ z)))) (numbers_above xs (number + 1) q (omega (arith, at)))
  procedure_elsewhere (x ∷ xs) number (suc i) q p e at other =
      one_absent (nat_eq x.module k) number q xs (λ z. omega (arith, at, z)) (procedure_elsewhere xs (number + 1) i q p e (omega (arith, at)) other)

  -- in its module's section it stands once
  procedure_here : (ps : List declared.Procedure) (number i q : ℕ) (p : declared.Procedure) → slice_get ps i ≡ Some p → number + i ≡ q → p.module ≡ k
      → (n : ℕ) × Alone (is_procedure q) (procedures_in k number ps) n
  procedure_here [] number i q p e at own = absurd (cc)
  procedure_here (x ∷ xs) number zero q p e at own =
      let same : x.module ≡ p.module = ap (module_or 0) e in
      subst (λ b. (n : ℕ) × Alone (is_procedure q) (first_of_them b number xs) n) (sym (eq-eqb x.module k (same ∙ own)))
      (0, (eq-eqb number q (omega (arith, at)), numbers_above xs (number + 1) q (omega (arith, at))))
  procedure_here (x ∷ xs) number (suc i) q p e at own =
      one_alone (nat_eq x.module k) number q xs (λ z. omega (arith, at, z)) (procedure_here xs (number + 1) i q p e (omega (arith, at)) own)

-- main is no procedure
no_main : (q : ℕ) (b : Bool) → Absent (is_procedure q) (cond b (Main ∷ []) [])
no_main q true = (refl, tt)
no_main q false = tt

module _ (c : Code) (q : ℕ) (p : declared.Procedure) (is : slice_get c.procedures.items q ≡ Some p) where
  elsewhere : (k : ℕ) → (p.module ≡ k → ⊥) → Absent (is_procedure q) (section c k)
  elsewhere k other =
      absent-append (is_procedure q) (procedures_in k 0 c.procedures.items) (main_in c k) (procedure_elsewhere k c.procedures.items 0 q q p is (omega arith) other) (no_main q (nat_eq c.main_module k))

  here : (k : ℕ) → p.module ≡ k → (n : ℕ) × Alone (is_procedure q) (section c k) n
  here k own =
      let found = procedure_here k c.procedures.items 0 q q p is (omega arith) own in
      (found.0, alone_before (is_procedure q) (procedures_in k 0 c.procedures.items) (main_in c k) found.0 found.1 (no_main q (nat_eq c.main_module k)))

  pub procedure_alone : p.module < c.sections → (n : ℕ) × Alone (is_procedure q) (routines c) n
  procedure_alone lt = in_routines (is_procedure q) c p.module elsewhere here lt refl

-- ---- the number of a procedure's part

module _ (q : ℕ) where
  pub part_absent : (xs : List Routine) (found own : ℕ) → Absent (is_procedure q) xs → part_in found own xs q ≡ found
  part_absent [] found own a = refl
  part_absent (x ∷ xs) found own a = ap (λ b. part_in (cond b own found) (own + 1) xs q) a.0 ∙ part_absent xs found (own + 1) a.1

  part_alone : (xs : List Routine) (n found own : ℕ) → Alone (is_procedure q) xs n → part_in found own xs q ≡ own + n
  part_alone [] n found own a = absurd a
  part_alone (x ∷ xs) zero found own a =
      let e : own ≡ own + 0 = omega arith in
      ap (λ b. part_in (cond b own found) (own + 1) xs q) a.0 ∙ part_absent xs own (own + 1) a.1 ∙ e
  part_alone (x ∷ xs) (suc n) found own a =
      let e : own + 1 + n ≡ own + suc n = omega arith in
      ap (λ b. part_in (cond b own found) (own + 1) xs q) a.0 ∙ part_alone xs n found (own + 1) a.1 ∙ e

  pub part_is : (c : Code) (n : ℕ) → Alone (is_procedure q) (routines c) n → part_of c q ≡ n
  part_is c n a = let e : 0 + n ≡ n = omega arith in part_alone (routines c) n 0 0 a ∙ e
