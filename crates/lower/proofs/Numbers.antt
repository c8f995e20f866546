-- The numbers of INTERRUPT fit a byte.
use Rattle.std.proofs.Common.{◌≡◌, ℕ, zero, suc, ◌<◌, true, List, [], ◌∷◌, ◌++◌, length, map, slice_index_or, arith}
use Rattle.lower.proofs.Faultless.{none_of_both, holds_without_fault}
use Rattle.plm_decl.specs.declared.names.Variable.{Variable}
use Rattle.plm_decl.specs.declared.names.Names.{Names}
use Rattle.plm_decl.specs.declared.names.Procedure as declared
use Rattle.plm_decl.specs.Names.{ProcedureR, procedure_of, declared_location_of, main_of}
use Rattle.plm_decl.specs.Placement.{sizes_of}
use Rattle.plm_type.specs.Statements.{of_locations, interrupt_fits}
use Rattle.plm_type.specs.Programs.{faults, declared_procedures}
use Rattle.lower.proofs.Typed.{of_procedure, of_procedures, of_main}

module _ (variables : List Variable) (all : List ProcedureR) (sizes : List ℕ) where
  number_fits : (p : ProcedureR) → of_procedure variables all sizes p ≡ [] → interrupt_fits p.interrupt ≡ true
  number_fits p e = holds_without_fault _ _ _ _ (none_of_both _ _ (none_of_both _ _ e).1).0

  each_fits : (ps : List declared.Procedure) → of_procedures variables all sizes (map procedure_of ps) ≡ [] → (k : ℕ) (d : declared.Procedure) → k < length ps → interrupt_fits (slice_index_or ps k d).interrupt ≡ true
  each_fits [] e k d h = absurd (omega (arith, h))
  each_fits (p ∷ ps) e zero d h = number_fits (procedure_of p) (none_of_both (of_procedure variables all sizes (procedure_of p)) (of_procedures variables all sizes (map procedure_of ps)) e).0
  each_fits (p ∷ ps) e (suc k) d h = each_fits ps (none_of_both (of_procedure variables all sizes (procedure_of p)) (of_procedures variables all sizes (map procedure_of ps)) e).1 k d (omega (arith, h))

pub numbers_fit : (names : Names) → faults names ≡ [] → (k : ℕ) (d : declared.Procedure) → k < length names.procedures.items → interrupt_fits (slice_index_or names.procedures.items k d).interrupt ≡ true
numbers_fit names e =
    let vs = names.variables.items in
    let ps = declared_procedures names in
    let sizes = sizes_of names in
    let behind = none_of_both (of_locations vs ps sizes (map declared_location_of names.locations.items)) (of_procedures vs ps sizes ps ++ of_main vs ps sizes (main_of names.main)) e in
    each_fits vs ps sizes names.procedures.items (none_of_both (of_procedures vs ps sizes ps) (of_main vs ps sizes (main_of names.main)) behind.1).0
