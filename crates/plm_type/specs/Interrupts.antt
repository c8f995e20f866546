-- The faults of interrupt procedures: one reaches ENABLE or HALT (E405); one is called, typed or has parameters (E406).
use Rattle.std.specs.Prelude.{◌≡◌, ℕ, ◌+◌, ◌↔◌, ◌⊎◌, Bool, true, false, not, ◌&&◌, ◌||◌, nat_eq, cond, List, [], ◌∷◌, ◌++◌, map, length, slice_get, Option, is_some, IsTrue, Contains}
use Rattle.std.specs.Option.{option_map_or}
use Rattle.word86.specs.declared.number.Number.{Number}
use Rattle.word86.specs.declared.number.Number.TheVariants.{E405, E406}
use Rattle.plm_decl.specs.declared.names.Names.{Names}
use Rattle.plm_decl.specs.declared.found.Found.{Found}
use Rattle.plm_decl.specs.Names.{ProcedureR, main_of, is_external_linkage, vector_of}
use Rattle.plm_type.specs.Effects.{of_statements}
use Rattle.plm_type.specs.declared.effects.Effect.{Effect}
use Rattle.plm_type.specs.declared.effects.Effect.TheVariants.{Calls, Enables}
use Rattle.plm_type.specs.Programs.{declared_procedures}
use Rattle.plm_type.specs.Reach.{Graph, row_of, Leads}
use Rattle.plm_type.specs.Trees.{entry_of}

-- the procedures that are called; a call of an EXTERNAL procedure is one of the PUBLIC procedure that it is joined with, too
abbrev pub called : List ProcedureR → List Effect → List ℕ
called ps [] = []
called ps (Calls q ∷ es) = q ∷ (entry_of (slice_get ps q) ∷ called ps es)
called ps (Enables ∷ es) = called ps es

abbrev pub lets_in : List Effect → Bool
lets_in [] = false
lets_in (Calls q ∷ es) = lets_in es
lets_in (Enables ∷ es) = true

-- an EXTERNAL procedure has no body of its own
abbrev pub body_effects : ProcedureR → List Effect
body_effects p = cond (is_external_linkage p.linkage) [] (of_statements p.body)

-- a row for each procedure: those that its text calls
abbrev pub text_graph : List ProcedureR → Graph
text_graph ps = map (λ p. called ps (body_effects p)) ps

abbrev pub main_calls : Names → List ℕ
main_calls names = called (declared_procedures names) (of_statements (main_of names.main).statements)

abbrev pub procedure_lets_in : Option ProcedureR → Bool
procedure_lets_in o = option_map_or (λ p. lets_in (body_effects p)) o false

-- an EXTERNAL one serves none
abbrev pub serves_interrupt : Option ProcedureR → Bool
serves_interrupt o = option_map_or (λ p. is_some (vector_of p)) o false

-- it serves an interrupt, and it or a procedure that it reaches by calls has ENABLE or HALT
abbrev pub LetsIn : List ProcedureR → ℕ → Type 0
LetsIn ps p =
    (serves_interrupt (slice_get ps p) ≡ true) × ((q : ℕ) × Leads (text_graph ps) (p ∷ []) q × (procedure_lets_in (slice_get ps q) ≡ true))

-- main, or the text of a procedure, calls it
abbrev pub IsCalled : Names → ℕ → Type 0
IsCalled names p = Contains (main_calls names) p ⊎ ((q : ℕ) × Contains (row_of (slice_get (text_graph (declared_procedures names)) q)) p)

-- it is for an interrupt, EXTERNAL or not, and typed or with parameters
abbrev pub has_interface : Option ProcedureR → Bool
has_interface o = option_map_or (λ p. is_some p.interrupt && (is_some p.returned || not (nat_eq (length p.parameters) 0))) o false

abbrev pub is_for_interrupt : Option ProcedureR → Bool
is_for_interrupt o = option_map_or (λ p. is_some p.interrupt) o false

abbrev pub IsMisused : Names → ℕ → Type 0
IsMisused names p =
    let q = slice_get (declared_procedures names) p in
    (has_interface q ≡ true) ⊎ ((is_for_interrupt q ≡ true) × IsCalled names p)

-- ---- their faults, at the procedures' names: of those from this number on

abbrev pub fault_if : Bool → Number → ProcedureR → List Found
fault_if is_fault number p = cond is_fault (record { «module» = p.module; place = p.place; number = number } ∷ []) []

abbrev pub faults_from : (lets_in is_misused : ℕ → Bool) → ℕ → List ProcedureR → List Found
faults_from l m k [] = []
faults_from l m k (p ∷ ps) = (fault_if (l k) E405 p ++ fault_if (m k) E406 p) ++ faults_from l m (k + 1) ps

pub record AreInterruptFaults (names : Names) (faults : List Found) : Type 0 where
  pub lets_in : ℕ → Bool
  pub is_misused : ℕ → Bool
  pub reaching : (p : ℕ) → IsTrue (lets_in p) ↔ LetsIn (declared_procedures names) p
  pub misused : (p : ℕ) → IsTrue (is_misused p) ↔ IsMisused names p
  pub each : faults ≡ faults_from lets_in is_misused 0 (declared_procedures names)
