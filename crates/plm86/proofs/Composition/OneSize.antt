-- A program has one size, whatever code it was lowered to and whatever parts were selected.
use Rattle.std.proofs.Common.{◌≡◌, ℕ, zero, suc, ◌+◌, cond, nat_eq, List, [], ◌∷◌, ◌++◌, length, map, option_map, Option, Some, None, slice_get, refl, sym, ap, ap₂, ◌∙◌, subst, arith}
use Rattle.std.specs.Prelude.{position}
use Rattle.std.proofs.Math.Path.{fun_ext}
use Rattle.std.proofs.lemmas.List.{ext_get_or}
use Rattle.std.proofs.lemmas.Option.{none-some}
use Rattle.plm_decl.specs.declared.names.Names.{Names}
use Rattle.icode.specs.declared.code.Procedure as declared
use Rattle.icode.specs.declared.code.Routine.{Routine}
use Rattle.icode.specs.declared.code.Routine.TheVariants.{Main, Procedure, Unserved, Nowhere}
use Rattle.icode.specs.declared.code.Code.{Code}
use Rattle.icode.specs.declared.registers.Registers.{Registers}
use Rattle.icode.specs.Code.{code_of, serving}
use Rattle.icode.specs.Counted.{IsChanged, HasVector, IsHandler}
use Rattle.lower.specs.Lowering.{IsLowered, EntryLaw}
use Rattle.select.specs.declared.part.Entry.{Entry}
use Rattle.select.specs.declared.part.Entry.TheVariants as entries
use Rattle.select.specs.declared.part.Fixup.{Fixup}
use Rattle.select.specs.declared.part.Part.{Part}
use Rattle.select.specs.declared.part.Step.{Step}
use Rattle.select.specs.Parts.{IsPart}
use Rattle.select.specs.Rows.{routine}
use Rattle.select.specs.Selection.{procedures_in, is_procedure, part_in, vector_in, section, sections_before, routines, part_of, entry_for, entry_of, AreSavedBy, ArePartsOf, AreParts}
use Rattle.select.specs.Sizes.{start}
use Rattle.layout_link.specs.declared.tasks.Task.{Task}
use Rattle.layout_link.specs.Initial.{data_tasks}
use Rattle.layout_link.specs.Linker.{stretches_in, initial_in, needed}
use Rattle.layout_link.specs.Places.{total_of}
use Rattle.layout_link.specs.Tasks.{start_up_bytes, vector_task, vector_tasks, is_serving}
use Rattle.layout_link.specs.Tasks as tasks
use Rattle.plm86.proofs.Composition.Entries.{parts_position}
use Rattle.plm86.proofs.Composition.Standing.{spelt_end}
use Rattle.plm86.proofs.Composition.OneStack.{one_changed, same_code, vector_at, handler_too}

-- ---- parts of the same steps

module _ (own : ℕ) (steps : List Step) (bytes others : List ℕ) (fixups more : List Fixup) (x : IsPart own steps bytes fixups) (y : IsPart own steps others more) where
  same_sizes : x.sizes ≡ y.sizes
  same_sizes =
      ext_get_or 0 x.sizes y.sizes (x.settled.many ∙ sym y.settled.many)
      (λ k lt. let there = x.least y.sizes y.settled k in let back = y.least x.sizes x.settled k in omega (arith, there, back))

  same_long : length bytes ≡ length others
  same_long =
      let a = spelt_end own (start x.sizes) 0 steps bytes fixups x.spelt in
      let b = spelt_end own (start y.sizes) 0 steps others more y.spelt in
      let same = ap (λ sizes. start sizes (0 + length steps)) same_sizes in
      omega (arith, a, b, same)

-- ---- the order of parts

in_modules : (section number : ℕ) → (modules : List ℕ) → List Routine
in_modules k number [] = []
in_modules k number (m ∷ ms) = cond (nat_eq m k) (Procedure number ∷ in_modules k (number + 1) ms) (in_modules k (number + 1) ms)

procedures_are : (k number : ℕ) (ps : List declared.Procedure) → procedures_in k number ps ≡ in_modules k number (map (λ p. p.«module») ps)
unfolding in_modules
procedures_are k number [] = refl
procedures_are k number (p ∷ ps) = ap (λ rs. cond (nat_eq p.«module» k) (Procedure number ∷ rs) rs) (procedures_are k (number + 1) ps)

module _ (names : Names) (c d : Code) (of_c : IsLowered names c) (of_d : IsLowered names d) where
  same_section : (k : ℕ) → section c k ≡ section d k
  same_section k =
      ap₂ (λ rs main. rs ++ cond (nat_eq main k) (Main ∷ []) [])
      (procedures_are k 0 c.procedures.items ∙ ap (in_modules k 0) (of_c.modules_are ∙ sym of_d.modules_are) ∙ sym (procedures_are k 0 d.procedures.items))
      (of_c.main_is_in ∙ sym of_d.main_is_in)

  same_before : (k : ℕ) → sections_before c k ≡ sections_before d k
  same_before zero = refl
  same_before (suc k) = ap₂ (λ rs more. rs ++ more) (same_before k) (same_section k)

  same_routines : routines c ≡ routines d
  same_routines = ap (λ rs. rs ++ Unserved ∷ []) (same_before c.sections ∙ ap (sections_before d) (of_c.sections_are ∙ sym of_d.sections_are))

  -- ---- what leads into them

  vector_of_either : (o p : Option declared.Procedure) → option_map (λ (x : declared.Procedure). x.vector) o ≡ option_map (λ (x : declared.Procedure). x.vector) p → vector_in o ≡ vector_in p
  vector_of_either None None e = refl
  vector_of_either None (Some y) e = absurd cc
  vector_of_either (Some x) None e = absurd cc
  vector_of_either (Some x) (Some y) e = cc

  same_for : EntryLaw → (q : ℕ) (o : Option ℕ) → entry_for c q o ≡ entry_for d q o
  same_for enters q None = refl
  same_for enters q (Some v) =
      let serves : serving c v ≡ serving d v = (enters names v).coded c of_c ∙ sym ((enters names v).coded d of_d) in
      ap (λ r. cond (is_procedure q r) (entries.Vector v) entries.Call) serves

  same_entry : EntryLaw → (r : Routine) → entry_of c r ≡ entry_of d r
  same_entry enters Main = refl
  same_entry enters (Procedure q) =
      same_for enters q (vector_in (slice_get c.procedures.items q))
      ∙ ap (entry_for d q) (vector_of_either (slice_get c.procedures.items q) (slice_get d.procedures.items q) (vector_at names c d of_c of_d q))
  same_entry enters Unserved = refl
  same_entry enters Nowhere = refl

  -- ---- what they save

  module _ (saves other : Routine → Registers) (saved : AreSavedBy c saves) (saved_too : AreSavedBy d other) where
    none_saved : (r : Routine) → (IsHandler c r → ⊥) → saves r ≡ other r
    none_saved r free = saved.others r free ∙ sym (saved_too.others r (λ h. free (handler_too names d c of_d of_c r h)))

    by_vector : (q : ℕ) (p : declared.Procedure) → slice_get c.procedures.items q ≡ Some p → (o : Option ℕ) → p.vector ≡ o → saves (Procedure q) ≡ other (Procedure q)
    by_vector q p e None f = none_saved (Procedure q) (λ h. let g : HasVector (Some p) = subst HasVector e h in none-some g.0 (sym f ∙ g.1))
    by_vector q p e (Some v) f =
        let h : IsHandler c (Procedure q) = subst HasVector (sym e) (v, f) in
        one_changed (code_of d) (Procedure q) (saves (Procedure q)) (other (Procedure q))
        (subst (λ code. IsChanged code (Procedure q) (saves (Procedure q))) (same_code names c d of_c of_d) (saved.interrupts q h))
        (saved_too.interrupts q (handler_too names c d of_c of_d (Procedure q) h))

    by_procedure : (q : ℕ) (o : Option declared.Procedure) → slice_get c.procedures.items q ≡ o → saves (Procedure q) ≡ other (Procedure q)
    by_procedure q None e = none_saved (Procedure q) (λ h. subst HasVector e h)
    by_procedure q (Some p) e = by_vector q p e p.vector refl

    same_saves : (r : Routine) → saves r ≡ other r
    same_saves Main = none_saved Main (λ h. h)
    same_saves (Procedure q) = by_procedure q (slice_get c.procedures.items q) refl
    same_saves Unserved = saved.unserved ∙ sym saved_too.unserved
    same_saves Nowhere = none_saved Nowhere (λ h. h)

    same_steps : (r : Routine) → routine (part_of c) (saves r) (code_of c r) ≡ routine (part_of d) (other r) (code_of d r)
    same_steps r =
        ap (λ rs. routine (part_in 0 0 rs) (saves r) (code_of c r)) same_routines
        ∙ ap (λ g. routine (part_of d) g (code_of c r)) (same_saves r)
        ∙ ap (λ code. routine (part_of d) (other r) (code r)) (same_code names c d of_c of_d)

    same_total : (own : ℕ) (rs : List Routine) (ps qs : List Part) → ArePartsOf c saves own rs ps → ArePartsOf d other own rs qs → total_of ps ≡ total_of qs
    same_total own [] [] [] x y = refl
    same_total own [] [] (q ∷ qs) x y = absurd y
    same_total own [] (p ∷ ps) qs x y = absurd x
    same_total own (r ∷ rs) [] qs x y = absurd x
    same_total own (r ∷ rs) (p ∷ ps) [] x y = absurd y
    same_total own (r ∷ rs) (p ∷ ps) (q ∷ qs) x y =
        let there = subst (λ steps. IsPart own steps p.bytes.items p.fixups.items) (same_steps r) x.0.is_part in
        let one = same_long own (routine (part_of d) (other r) (code_of d r)) p.bytes.items q.bytes.items p.fixups.items q.fixups.items there y.0.is_part in
        let rest = same_total (own + 1) rs ps qs x.1 y.1 in
        omega (arith, one, rest)

  -- ---- start-up

  same_serving : EntryLaw → (saves other : Routine → Registers) (ps qs : List Part) → ArePartsOf c saves 0 (routines c) ps → ArePartsOf d other 0 (routines d) qs → (v : ℕ) → tasks.serving ps v ≡ tasks.serving qs v
  same_serving enters saves other ps qs x y v =
      parts_position c saves (is_serving v) (λ r. is_serving v (entry_of c r)) (λ r. refl) 0 (routines c) ps x
      ∙ ap (λ rs. position (λ r. is_serving v (entry_of c r)) rs) same_routines
      ∙ ap (λ (entry : Routine → Entry). position (λ r. is_serving v (entry r)) (routines d)) (fun_ext (same_entry enters))
      ∙ sym (parts_position d other (is_serving v) (λ r. is_serving v (entry_of d r)) (λ r. refl) 0 (routines d) qs y)

same_vectors : (ps qs : List Part) → ((v : ℕ) → tasks.serving ps v ≡ tasks.serving qs v) → (v n : ℕ) → vector_tasks ps v n ≡ vector_tasks qs v n
unfolding vector_tasks
same_vectors ps qs same v zero = refl
same_vectors ps qs same v (suc n) = ap₂ (λ a b. a ++ b) (ap (vector_task v) (same v)) (same_vectors ps qs same (suc v) n)

-- ---- the whole

pub one_size : (names : Names) (c d : Code) → IsLowered names c → IsLowered names d → EntryLaw → (ps qs : List Part) → AreParts c ps → AreParts d qs → needed names ps ≡ needed names qs
one_size names c d of_c of_d enters ps qs x y =
    let there = subst (λ rs. ArePartsOf d y.saves 0 rs qs) (sym (same_routines names c d of_c of_d)) y.parts_are in
    let total = same_total names c d of_c of_d x.saves y.saves x.saved y.saved 0 (routines c) ps qs x.parts_are there in
    let vectors = same_vectors ps qs (same_serving names c d of_c of_d enters x.saves y.saves ps qs x.parts_are y.parts_are) 0 256 in
    ap₂ (λ (ts : List Task) (n : ℕ). start_up_bytes (ts ++ data_tasks 0 0 (stretches_in names)) + n + length (initial_in names) + 16) vectors total
