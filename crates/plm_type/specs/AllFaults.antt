-- All faults of types, of which `check` refuses the least.
use Rattle.std.specs.Prelude.{◌≡◌, ◌≢◌, ℕ, List, [], ◌∷◌, ◌++◌}
use Rattle.plm_decl.specs.declared.names.Names.{Names}
use Rattle.plm_decl.specs.declared.found.Found.{Found}
use Rattle.plm_type.specs.Rest.{Procedure}
use Rattle.plm_type.specs.Programs.{faults, procedures_of}
use Rattle.plm_type.specs.Calls.{IsRecursive}
use Rattle.plm_type.specs.Interrupts.{AreInterruptFaults}
use Rattle.plm_type.specs.Checking.{IsRecursion}

-- the faults of the whole program: the first procedure that reaches itself, if one does
abbrev pub AreWhole : List Procedure → Names → List Found → Type 0
AreWhole ps names [] = (q : ℕ) → ¬ IsRecursive ps q
AreWhole ps names (f ∷ []) = IsRecursion ps names f
AreWhole ps names (f ∷ g ∷ others) = ⊥

-- the faults of types and of interrupt procedures; where there is none, those of the whole program
abbrev pub AreAll : Names → List Found → Type 0
AreAll names found =
    (more : List Found) × AreInterruptFaults names more
    × ((faults names ++ more ≢ [] → found ≡ faults names ++ more) × (faults names ++ more ≡ [] → AreWhole (procedures_of names) names found))
