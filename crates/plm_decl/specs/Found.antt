-- The fault that is answered: the least by module, token and number.
use Rattle.std.specs.Prelude.{◌≡◌, ℕ, ◌-◌, ◌^◌, List, [], Bool, false, cond, min, nat_eq, nat_lt, Contains, All, ◌⊎◌}
use Rattle.word86.specs.FaultCode.{code_of}
use Rattle.word86.specs.declared.fault.Fault.{Fault}
use Rattle.word86.specs.declared.fault.Fault.TheVariants.{Memory, At}
use Rattle.plm_decl.specs.declared.found.Found.{Found}

abbrev pub precedes : Found → Found → Bool
precedes f g = cond (nat_eq f.module g.module) (cond (nat_eq f.place.token g.place.token) (nat_lt (code_of f.number) (code_of g.number)) (nat_lt f.place.token g.place.token)) (nat_lt f.module g.module)

-- a fault of the list that none of the list precedes
abbrev pub IsLeast : List Found → Found → Type 0
IsLeast fs f = Contains fs f × All (λ g. precedes g f ≡ false) fs

abbrev pub fault_at : Found → Fault
fault_at f = At (min f.module (2 ^ 32 - 1)) f.place.line f.number

-- the least of the faults is answered; those of the whole program come after the others
abbrev pub IsRefusal : Fault → List Found → List Found → Type 0
IsRefusal Memory faults whole = Unit {0}
IsRefusal (At m line number) faults whole =
    (f : Found) × (IsLeast faults f ⊎ ((faults ≡ []) × IsLeast whole f)) × (fault_at f ≡ At m line number)
