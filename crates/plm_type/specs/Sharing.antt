-- What `warnings` answers: the procedures that main and an interrupt procedure share, or two of these.
use Rattle.std.specs.Prelude.{◌≡◌, ℕ, ◌+◌, ◌<◌, ◌↔◌, List, [], ◌∷◌, map, Bool, cond, IsTrue, length, slice_get, Option, Some, None}
use Rattle.plm_decl.specs.declared.names.Procedure as declared
use Rattle.plm_decl.specs.Names.{procedure_of}
use Rattle.plm_type.specs.declared.checked.Program.{Program}
use Rattle.plm_type.specs.declared.sharing.Warning.{Warning}
use Rattle.plm_type.specs.Interrupts.{serves_interrupt}
use Rattle.plm_type.specs.Reach.{Graph, Leads}
use Rattle.plm_type.specs.Calls.{statements_calls, graph_of}
use Rattle.plm_type.specs.View as view

abbrev pub LeadsFrom : Graph → Option (List ℕ) → ℕ → Type 0
LeadsFrom g None p = ⊥
LeadsFrom g (Some first) p = Leads g first p

-- two of the roots lead to it
pub record LeadTwice (g : Graph) (roots : List (List ℕ)) (p : ℕ) : Type 0 where
  pub a : ℕ
  pub b : ℕ
  pub apart : a < b
  pub first : LeadsFrom g (slice_get roots a) p
  pub second : LeadsFrom g (slice_get roots b) p

-- an interrupt procedure reaches itself, and what it calls: of the procedures from this number on, each that is one
abbrev pub handlers_from : ℕ → List declared.Procedure → List (List ℕ)
handlers_from k [] = []
handlers_from k (p ∷ ps) = cond (serves_interrupt (Some (procedure_of p))) ((k ∷ []) ∷ handlers_from (k + 1) ps) (handlers_from (k + 1) ps)

-- main reaches what it calls
abbrev pub roots : Program → List (List ℕ)
roots program = statements_calls (view.statements_of program.main.items) ∷ handlers_from 0 program.names.procedures.items

abbrev pub IsShared : Program → ℕ → Type 0
IsShared program p = LeadTwice (graph_of (map view.procedure_of program.procedures.items)) (roots program) p

abbrev pub warning_of : declared.Procedure → Warning
warning_of p = record { «module» = p.module; line = p.place.line }

-- of the procedures from this number on, a warning for each that is marked, in order
abbrev pub warnings_of : (is_marked : ℕ → Bool) → ℕ → List declared.Procedure → List Warning
warnings_of m k [] = []
warnings_of m k (p ∷ ps) = cond (m k) (warning_of p ∷ warnings_of m (k + 1) ps) (warnings_of m (k + 1) ps)

pub record AreWarnings (program : Program) (ws : List Warning) : Type 0 where
  pub is_marked : ℕ → Bool
  pub marks : (p : ℕ) → IsTrue (is_marked p) ↔ ((p < length program.procedures.items) × IsShared program p)
  pub each : ws ≡ warnings_of is_marked 0 program.names.procedures.items
