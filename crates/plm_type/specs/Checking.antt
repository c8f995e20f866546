-- What `check` refuses: the least of the faults, or, where there is none, the first procedure that reaches itself.
use Rattle.std.specs.Prelude.{◌≡◌, ℕ, ◌<◌, ◌⊎◌, List, [], ◌++◌, Option, Some, None, slice_get}
use Rattle.word86.specs.declared.number.Number.TheVariants.{E404}
use Rattle.word86.specs.declared.fault.Fault.{Fault}
use Rattle.word86.specs.declared.fault.Fault.TheVariants.{Memory, At}
use Rattle.plm_decl.specs.declared.names.Names.{Names}
use Rattle.plm_decl.specs.declared.names.Procedure as declared
use Rattle.plm_decl.specs.declared.found.Found.{Found}
use Rattle.plm_decl.specs.Found.{IsLeast, fault_at}
use Rattle.plm_type.specs.Rest.{Procedure}
use Rattle.plm_type.specs.Programs.{faults, procedures_of}
use Rattle.plm_type.specs.Calls.{IsRecursive}
use Rattle.plm_type.specs.Interrupts.{AreInterruptFaults}

-- the fault stands at the procedure's name
abbrev pub StandsAt : Option declared.Procedure → Found → Type 0
StandsAt None f = ⊥
StandsAt (Some p) f = f ≡ record { «module» = p.module; place = p.place; number = E404 }

pub record IsRecursion (ps : List Procedure) (names : Names) (f : Found) : Type 0 where
  pub procedure : ℕ
  pub recursive : IsRecursive ps procedure
  pub first : (q : ℕ) → q < procedure → ¬ IsRecursive ps q
  pub stands : StandsAt (slice_get names.procedures.items procedure) f

-- the least of the faults of types and of interrupt procedures; where there is none, the first procedure that reaches itself
abbrev pub IsRefusal : Fault → Names → Type 0
IsRefusal Memory names = Unit {0}
IsRefusal (At m line number) names =
    (more : List Found) × AreInterruptFaults names more
    × ((f : Found) × (IsLeast (faults names ++ more) f ⊎ ((faults names ++ more ≡ []) × IsRecursion (procedures_of names) names f)) × (fault_at f ≡ At m line number))
