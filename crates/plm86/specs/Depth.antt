-- Which programs are shallow: their calls lead through few procedures, and their statements are short.
use Rattle.std.specs.Prelude.{◌≡◌, ℕ, ◌+◌, ◌≤◌, true, List, [], ◌∷◌, length, slice_get, Contains, ⊤}
use Rattle.plm_decl.specs.declared.names.Names.{Names}
use Rattle.plm_type.specs.Calls.{graph_of, statements_calls}
use Rattle.plm_type.specs.Interrupts.{serves_interrupt}
use Rattle.plm_type.specs.Leaves.{most_leaves}
use Rattle.plm_type.specs.Programs.{declared_procedures, main_tree, procedures_of}
use Rattle.plm_type.specs.Reach.{Graph, row_of}

-- A path of calls is procedures of which the first one is called by these calls, and each other one by the procedure before it. The
-- graph has a row for each procedure: those that it calls.
abbrev pub IsCallPath : Graph → (calls path : List ℕ) → Type 0
IsCallPath graph calls [] = ⊤
IsCallPath graph calls (p ∷ path) = Contains calls p × IsCallPath graph (row_of (slice_get graph p)) path

-- Each path of calls from main has at most `main` procedures, and each one from an interrupt procedure at most `interrupt`, itself
-- among them: together 8. No statement has more than 32 constants and references.
pub record IsShallow (names : Names) : Type 0 where
  pub main : ℕ
  pub interrupt : ℕ
  pub from_main : (path : List ℕ) → IsCallPath (graph_of (procedures_of names)) (statements_calls (main_tree names)) path → length path ≤ main
  pub from_interrupt : (q : ℕ) (path : List ℕ) → serves_interrupt (slice_get (declared_procedures names) q) ≡ true
      → IsCallPath (graph_of (procedures_of names)) (row_of (slice_get (graph_of (procedures_of names)) q)) path
      → length (q ∷ path) ≤ interrupt
  pub few : main + interrupt ≤ 8
  pub small : most_leaves names ≤ 32
