-- Each routine of a lowered program has its part.
use Rattle.std.proofs.Common.{◌≡◌, ℕ, zero, suc, ◌≤◌, max, Bool, true, false, List, [], ◌∷◌, map, Option, Some, None, refl, sym, ap, ◌∙◌, subst, arith}
use Rattle.std.specs.Prelude.{slice_get}
use Rattle.std.proofs.lemmas.Bool.{eqb-true}
use Rattle.icode.specs.declared.code.Procedure as declared
use Rattle.icode.specs.declared.code.Routine.{Routine}
use Rattle.icode.specs.declared.code.Routine.TheVariants.{Main, Procedure, Unserved, Nowhere}
use Rattle.icode.specs.declared.code.Code.{Code}
use Rattle.plm_decl.specs.declared.names.Names.{Names}
use Rattle.plm_decl.specs.Names.{ProcedureR, main_of}
use Rattle.plm_type.specs.Programs.{declared_procedures}
use Rattle.lower.specs.Lowering.{IsLowered, last_module}
use Rattle.select.specs.Selection.{is_procedure, routines}
use Rattle.plm86.specs.Inner.Assembled.{is_main_routine, or_zero, part_number}
use Rattle.plm86.proofs.Composition.Orders.{Alone, alone_is, alone_position, main_alone, procedure_alone, last_alone, part_is}

-- ---- modules are sections

module_or : ℕ → Option declared.Procedure → ℕ
module_or d (Some p) = p.module
module_or d None = d

greatest : ℕ → List ℕ → ℕ
greatest main [] = main
greatest main (m ∷ ms) = max m (greatest main ms)

last_is : (main : ℕ) (ps : List ProcedureR) → last_module main ps ≡ greatest main (map (λ p. p.module) ps)
unfolding greatest
last_is main [] = refl
last_is main (p ∷ ps) = ap (λ n. max p.module n) (last_is main ps)

main_among : (main : ℕ) (ms : List ℕ) → main ≤ greatest main ms
unfolding greatest
main_among main [] = omega arith
main_among main (m ∷ ms) = omega (arith, main_among main ms)

all_among : (main : ℕ) (ps : List declared.Procedure) (q : ℕ) (p : declared.Procedure) → slice_get ps q ≡ Some p → p.module ≤ greatest main (map (λ x. x.module) ps)
unfolding greatest module_or
all_among main [] q p e = absurd (cc)
all_among main (x ∷ xs) zero p e = let same : x.module ≡ p.module = ap (module_or 0) e in omega (arith, same)
all_among main (x ∷ xs) (suc q) p e = omega (arith, all_among main xs q p e)

module _ (names : Names) (c : Code) (lowered : IsLowered names c) where
  sections_are : c.sections ≡ suc (greatest c.main_module (map (λ p. p.module) c.procedures.items))
  sections_are =
      lowered.sections_are
      ∙ ap suc (last_is (main_of names.main).module (declared_procedures names))
      ∙ ap (λ m. suc (greatest m (map (λ p. p.module) (declared_procedures names)))) (sym lowered.main_is_in)
      ∙ ap (λ ms. suc (greatest c.main_module ms)) (sym lowered.modules_are)

  -- ---- the parts of routines

  pub main_is : Alone is_main_routine (routines c) (part_number c Main)
  main_is =
      let found = main_alone c (omega (arith, sections_are, main_among c.main_module (map (λ p. p.module) c.procedures.items))) in
      subst (λ o. Alone is_main_routine (routines c) (or_zero o)) (sym (alone_position is_main_routine (routines c) found.0 found.1)) found.1

  pub procedure_is : (q : ℕ) (p : declared.Procedure) → slice_get c.procedures.items q ≡ Some p → Alone (is_procedure q) (routines c) (part_number c (Procedure q))
  procedure_is q p e =
      let found = procedure_alone c q p e (omega (arith, sections_are, all_among c.main_module c.procedures.items q p e)) in
      subst (λ n. Alone (is_procedure q) (routines c) n) (sym (part_is q c found.0 found.1)) found.1

  pub main_stands : slice_get (routines c) (part_number c Main) ≡ Some Main
  main_stands = let found = alone_is is_main_routine (routines c) (part_number c Main) main_is in found.1 ∙ ap Some (is_main found.0 found.2)
    where
      is_main : (r : Routine) → is_main_routine r ≡ true → r ≡ Main
      is_main Main e = refl
      is_main (Procedure q) e = absurd (cc)
      is_main Unserved e = absurd (cc)
      is_main Nowhere e = absurd (cc)

  pub procedure_stands : (q : ℕ) (p : declared.Procedure) → slice_get c.procedures.items q ≡ Some p → slice_get (routines c) (part_number c (Procedure q)) ≡ Some (Procedure q)
  procedure_stands q p e =
      let found = alone_is (is_procedure q) (routines c) (part_number c (Procedure q)) (procedure_is q p e) in
      found.1 ∙ ap Some (is found.0 found.2)
    where
      is : (r : Routine) → is_procedure q r ≡ true → r ≡ Procedure q
      is Main e = absurd (cc)
      is (Procedure n) e = ap Procedure (eqb-true n q e)
      is Unserved e = absurd (cc)
      is Nowhere e = absurd (cc)

-- ---- the routine for vectors without a procedure

abbrev pub is_last_routine : Routine → Bool
is_last_routine Main = false
is_last_routine (Procedure q) = false
is_last_routine Unserved = true
is_last_routine Nowhere = false

pub last_is_alone : (c : Code) → Alone is_last_routine (routines c) (part_number c Unserved)
last_is_alone c = last_alone is_last_routine (λ q. refl) c refl refl

pub last_stands : (c : Code) → slice_get (routines c) (part_number c Unserved) ≡ Some Unserved
last_stands c = let found = alone_is is_last_routine (routines c) (part_number c Unserved) (last_is_alone c) in found.1 ∙ ap Some (is found.0 found.2)
  where
    is : (r : Routine) → is_last_routine r ≡ true → r ≡ Unserved
    is Main e = absurd (cc)
    is (Procedure q) e = absurd (cc)
    is Unserved e = refl
    is Nowhere e = absurd (cc)
