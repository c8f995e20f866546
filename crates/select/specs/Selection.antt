-- The parts of a program: module by module its procedures, in their order, and main after those of its module; last the part for
-- the vectors without a procedure.
use Rattle.std.specs.Prelude.{◌≡◌, ℕ, zero, suc, ◌+◌, Bool, false, nat_eq, cond, List, [], ◌∷◌, ◌++◌, length, Option, Some, None, slice_get}
use Rattle.icode.specs.declared.code.Procedure as declared
use Rattle.icode.specs.declared.code.Routine.{Routine}
use Rattle.icode.specs.declared.code.Routine.TheVariants.{Main, Procedure, Unserved, Nowhere}
use Rattle.icode.specs.declared.code.Code.{Code}
use Rattle.icode.specs.declared.registers.Registers.{Registers}
use Rattle.icode.specs.Code.{code_of, serving}
use Rattle.icode.specs.Counted.{IsChanged, IsHandler}
use Rattle.icode.specs.Registers.{none}
use Rattle.select.specs.declared.part.Entry.{Entry}
use Rattle.select.specs.declared.part.Entry.TheVariants as entry
use Rattle.select.specs.declared.part.Part.{Part}
use Rattle.select.specs.Parts.{IsPart}
use Rattle.select.specs.Rows.{routine}

-- ---- the order of parts

-- the procedures of a module, of those that have this number and the next ones
abbrev pub procedures_in : (section number : ℕ) → List declared.Procedure → List Routine
procedures_in k number [] = []
procedures_in k number (p ∷ ps) = cond (nat_eq p.module k) (Procedure number ∷ procedures_in k (number + 1) ps) (procedures_in k (number + 1) ps)

abbrev pub is_procedure : ℕ → Routine → Bool
is_procedure q (Procedure p) = nat_eq p q
is_procedure q Main = false
is_procedure q Unserved = false
is_procedure q Nowhere = false

-- the number of a procedure's part among these routines, the first of which has this number; else what was found before
abbrev pub part_in : (found own : ℕ) → List Routine → (procedure : ℕ) → ℕ
part_in found own [] q = found
part_in found own (r ∷ rs) q = part_in (cond (is_procedure q r) own found) (own + 1) rs q

abbrev pub vector_in : Option declared.Procedure → Option ℕ
vector_in (Some p) = p.vector
vector_in None = None

module _ (c : Code) where
  abbrev pub section : ℕ → List Routine
  section k = procedures_in k 0 c.procedures.items ++ cond (nat_eq c.main_module k) (Main ∷ []) []

  abbrev pub sections_before : ℕ → List Routine
  sections_before zero = []
  sections_before (suc k) = sections_before k ++ section k

  abbrev pub routines : List Routine
  routines = sections_before c.sections ++ Unserved ∷ []

  -- 0 for one that there is not
  abbrev pub part_of : ℕ → ℕ
  part_of = part_in 0 0 routines

  -- ---- what leads into a part

  -- of the procedures with a vector the first one serves it
  abbrev pub entry_for : (number : ℕ) → Option ℕ → Entry
  entry_for q (Some v) = cond (is_procedure q (serving c v)) (entry.Vector v) entry.Call
  entry_for q None = entry.Call

  abbrev pub entry_of : Routine → Entry
  entry_of Main = entry.Main
  entry_of (Procedure q) = entry_for q (vector_in (slice_get c.procedures.items q))
  entry_of Unserved = entry.Unserved
  entry_of Nowhere = entry.Call

  -- ---- the parts

  -- an interrupt procedure saves the registers that it and what it calls can change, and no others; nothing else saves any
  pub record AreSavedBy (saves : Routine → Registers) : Type 0 where
    pub interrupts : (q : ℕ) → IsHandler c (Procedure q) → IsChanged (code_of c) (Procedure q) (saves (Procedure q))
    pub others : (r : Routine) → (IsHandler c r → ⊥) → saves r ≡ none
    pub unserved : saves Unserved ≡ none

  -- the part of a routine, which has this number
  pub record IsPartOf (saves : Routine → Registers) (own : ℕ) (r : Routine) (p : Part) : Type 0 where
    pub entry_is : p.entry ≡ entry_of r
    pub is_part : IsPart own (routine part_of (saves r) (code_of c r)) p.bytes.items p.fixups.items

  -- of these routines, from this number on
  abbrev pub ArePartsOf : (saves : Routine → Registers) (own : ℕ) → List Routine → List Part → Type 0
  ArePartsOf saves own [] [] = Unit {0}
  ArePartsOf saves own [] (p ∷ ps) = ⊥
  ArePartsOf saves own (r ∷ rs) [] = ⊥
  ArePartsOf saves own (r ∷ rs) (p ∷ ps) = IsPartOf saves own r p × ArePartsOf saves (own + 1) rs ps

  -- those of a section, and of the whole program
  pub record AreSection (k : ℕ) (parts : List Part) : Type 0 where
    pub saves : Routine → Registers
    pub saved : AreSavedBy saves
    pub parts_are : ArePartsOf saves (length (sections_before k)) (section k) parts

  pub record AreParts (parts : List Part) : Type 0 where
    pub saves : Routine → Registers
    pub saved : AreSavedBy saves
    pub parts_are : ArePartsOf saves 0 routines parts
