-- Each vector that start-up sets apart belongs to another procedure.
use Rattle.std.proofs.Common.{◌≡◌, ℕ, zero, suc, ◌+◌, ◌*◌, ◌<◌, ◌≤◌, Bool, true, false, List, [], ◌∷◌, ◌++◌, length, map, slice_get, Option, Some, None, refl, sym, ap, ◌∙◌, subst, arith}
use Rattle.std.specs.Prelude.{cond, nat_eq}
use Rattle.std.specs.List.{position_from}
use Rattle.std.proofs.lemmas.Bool.{eqb-true}
use Rattle.std.proofs.lemmas.Iterator.Adapters.{position_from-zero}
use Rattle.std.proofs.lemmas.List.{length-map}
use Rattle.icode.specs.declared.code.Procedure as declared
use Rattle.icode.specs.declared.code.Routine.{Routine}
use Rattle.icode.specs.declared.code.Routine.TheVariants.{Main, Procedure, Unserved, Nowhere}
use Rattle.icode.specs.declared.code.Code.{Code}
use Rattle.icode.specs.declared.registers.Registers.{Registers}
use Rattle.icode.specs.Code.{procedure_or_none}
use Rattle.icode.specs.Vectors.{is_number}
use Rattle.icode.specs.Code.{serving as entered}
use Rattle.select.specs.declared.part.Entry.TheVariants as entry
use Rattle.select.specs.declared.part.Part.{Part}
use Rattle.select.specs.Selection.{is_procedure, vector_in, entry_for, entry_of, ArePartsOf, AreParts, routines}
use Rattle.layout_link.specs.declared.tasks.Task.{Task}
use Rattle.layout_link.specs.Tasks.{bytes_of_tasks, is_serving, serving, vector_task, vector_tasks}

-- ---- how many vectors some procedures have

-- 1 if one of them has this vector
abbrev has : List (Option ℕ) → ℕ → ℕ
has [] v = 0
has (o ∷ os) v = cond (is_number o v) 1 (has os v)

-- 1 for a test that holds
abbrev count : Bool → ℕ
count true = 1
count false = 0

-- how many of these vectors one of them has
abbrev how_many : List (Option ℕ) → (vector number : ℕ) → ℕ
how_many os v zero = 0
how_many os v (suc n) = has os v + how_many os (suc v) n

-- the same for a single one
abbrev single : Option ℕ → (vector number : ℕ) → ℕ
single o v zero = 0
single o v (suc n) = count (is_number o v) + single o (suc v) n

-- a single one has one of these vectors at most
other : (m v : ℕ) → m < v → count (nat_eq m v) ≡ 0
other m v lt = decided (nat_eq m v) refl
  where
    decided : (b : Bool) → nat_eq m v ≡ b → count b ≡ 0
    decided true e = let same = eqb-true m v e in absurd (omega (arith, lt, same))
    decided false e = refl

single_past : (m v n : ℕ) → m < v → single (Some m) v n ≡ 0
single_past m v zero lt = refl
single_past m v (suc n) lt = let h = single_past m (suc v) n (omega (arith, lt)) in omega (arith, other m v lt, h)

single_few : (o : Option ℕ) (v n : ℕ) → single o v n ≤ 1
single_few o v zero = omega arith
single_few None v (suc n) = let h = single_few None (suc v) n in omega (arith, h)
single_few (Some m) v (suc n) = decided (nat_eq m v) refl (single_few (Some m) (suc v) n)
  where
    decided : (b : Bool) → nat_eq m v ≡ b → single (Some m) (suc v) n ≤ 1 → count b + single (Some m) (suc v) n ≤ 1
    decided true e h =
        let same = eqb-true m v e in
        let none = single_past m (suc v) n (omega (arith, same)) in
        omega (arith, none)
    decided false e h = omega (arith, h)

either : (b : Bool) (h : ℕ) → cond b 1 h ≤ count b + h
either true h = omega arith
either false h = omega arith

one_more : (o : Option ℕ) (os : List (Option ℕ)) (v n : ℕ) → how_many (o ∷ os) v n ≤ single o v n + how_many os v n
one_more o os v zero = omega arith
one_more o os v (suc n) = let h = one_more o os (suc v) n in omega (arith, h, either (is_number o v) (has os v))

none_at_all : (v n : ℕ) → how_many [] v n ≡ 0
none_at_all v zero = refl
none_at_all v (suc n) = let h = none_at_all (suc v) n in omega (arith, h)

-- no more than there are procedures
few : (os : List (Option ℕ)) (v n : ℕ) → how_many os v n ≤ length os
few [] v n = omega (arith, none_at_all v n)
few (o ∷ os) v n = let h = few os v n in omega (arith, h, one_more o os v n, single_few o v n)

-- ---- the vectors of parts

-- what the first procedure with a vector has
found : (w n k : ℕ) (ps : List declared.Procedure) → position_from (λ (p : declared.Procedure). is_number p.vector w) n ps ≡ Some k → has (map (λ p. p.vector) ps) w ≡ 1
found w n k [] e = absurd cc
found w n k (p ∷ ps) e = decided (is_number p.vector w) (found w (n + 1) k ps) e
  where
    decided : (b : Bool) → (position_from (λ (p : declared.Procedure). is_number p.vector w) (n + 1) ps ≡ Some k → has (map (λ p. p.vector) ps) w ≡ 1)
        → cond b (Some n) (position_from (λ (p : declared.Procedure). is_number p.vector w) (n + 1) ps) ≡ Some k
        → cond b 1 (has (map (λ p. p.vector) ps) w) ≡ 1
    decided true behind e = refl
    decided false behind e = behind e

abbrev vectors : Code → List (Option ℕ)
vectors c = map (λ p. p.vector) c.procedures.items

module _ (c : Code) where
  -- a procedure that an interrupt enters has its vector
  entered_has : (q w : ℕ) → is_procedure q (entered c w) ≡ true → has (vectors c) w ≡ 1
  entered_has q w e =
      let from = position_from (λ (p : declared.Procedure). is_number p.vector w) 0 c.procedures.items in
      known from refl (ap (λ o. is_procedure q (procedure_or_none o)) (sym (position_from-zero (λ (p : declared.Procedure). is_number p.vector w) c.procedures.items)) ∙ e)
    where
      known : (o : Option ℕ) → position_from (λ (p : declared.Procedure). is_number p.vector w) 0 c.procedures.items ≡ o → is_procedure q (procedure_or_none o) ≡ true → has (vectors c) w ≡ 1
      known None f e = absurd cc
      known (Some k) f e = found w 0 k c.procedures.items f

  of_procedure : (v q : ℕ) (o : Option ℕ) → is_serving v (entry_for c q o) ≡ true → has (vectors c) v ≡ 1
  of_procedure v q None e = absurd cc
  of_procedure v q (Some w) e = decided (is_procedure q (entered c w)) refl e
    where
      decided : (b : Bool) → is_procedure q (entered c w) ≡ b → is_serving v (cond b (entry.Vector w) entry.Call) ≡ true → has (vectors c) v ≡ 1
      decided true f e = subst (λ u. has (vectors c) u ≡ 1) (eqb-true w v e) (entered_has q w f)
      decided false f e = absurd cc

  of_routine : (v : ℕ) (r : Routine) → is_serving v (entry_of c r) ≡ true → has (vectors c) v ≡ 1
  of_routine v Main e = absurd cc
  of_routine v (Procedure q) e = of_procedure v q (vector_in (slice_get c.procedures.items q)) e
  of_routine v Unserved e = absurd cc
  of_routine v Nowhere e = absurd cc

  module _ (saves : Routine → Registers) where
    -- a part that serves a vector is that of a procedure which has it
    of_parts : (v own n k : ℕ) (rs : List Routine) (ps : List Part) → ArePartsOf c saves own rs ps → position_from (λ (p : Part). is_serving v p.entry) n ps ≡ Some k
        → has (vectors c) v ≡ 1
    of_parts v own n k [] [] are e = absurd cc
    of_parts v own n k [] (p ∷ ps) are e = absurd are
    of_parts v own n k (r ∷ rs) [] are e = absurd are
    of_parts v own n k (r ∷ rs) (p ∷ ps) are e = decided (is_serving v p.entry) refl (of_parts v (own + 1) (n + 1) k rs ps are.1) e
      where
        decided : (b : Bool) → is_serving v p.entry ≡ b → (position_from (λ (p : Part). is_serving v p.entry) (n + 1) ps ≡ Some k → has (vectors c) v ≡ 1)
            → cond b (Some n) (position_from (λ (p : Part). is_serving v p.entry) (n + 1) ps) ≡ Some k
            → has (vectors c) v ≡ 1
        decided true f behind e = of_routine v r (ap (is_serving v) (sym are.0.entry_is) ∙ f)
        decided false f behind e = behind e

-- ---- what start-up has for them

pub bytes_append : (a b : List Task) → bytes_of_tasks (a ++ b) ≡ bytes_of_tasks a + bytes_of_tasks b
bytes_append [] b = omega arith
bytes_append (t ∷ a) b = let h = bytes_append a b in omega (arith, h)

module _ (c : Code) (parts : List Part) (are : AreParts c parts) where
  one_vector : (v : ℕ) (o : Option ℕ) → serving parts v ≡ o → bytes_of_tasks (vector_task v o) ≤ 6 * has (vectors c) v
  one_vector v None e = omega arith
  one_vector v (Some k) e =
      let there = of_parts c are.saves v 0 0 k (routines c) parts are.parts_are (sym (position_from-zero (λ (p : Part). is_serving v p.entry) parts) ∙ e) in
      omega (arith, there)

  each_vector : (v n : ℕ) → bytes_of_tasks (vector_tasks parts v n) ≤ 6 * how_many (vectors c) v n
  unfolding vector_tasks
  each_vector v zero = omega arith
  each_vector v (suc n) =
      let a = bytes_append (vector_task v (serving parts v)) (vector_tasks parts (suc v) n) in
      let one = one_vector v (serving parts v) refl in
      let more = each_vector (suc v) n in
      omega (arith, a, one, more)

  -- six bytes a procedure
  pub vectors_room : bytes_of_tasks (vector_tasks parts 0 256) ≤ 6 * length c.procedures.items
  vectors_room =
      let at_most = few (vectors c) 0 256 in
      let same = length-map c.procedures.items (λ p. p.vector) in
      omega (arith, each_vector 0 256, at_most, same)
