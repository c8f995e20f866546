-- Checked programs have well-formed trees, and code that can be counted and selected.
use Rattle.std.specs.Prelude.{◌≡◌, ℕ, false, Some, slice_get, Contains}
use Rattle.plm_decl.specs.declared.names.Names.{Names}
use Rattle.plm_decl.specs.Placement.{sizes_of}
use Rattle.plm_type.specs.declared.checked.Program.{Program}
use Rattle.plm_type.specs.Checked.{AreTyped}
use Rattle.plm_type.specs.Calls.{graph_of, statements_calls}
use Rattle.plm_type.specs.Programs.{main_tree, procedures_of}
use Rattle.plm_type.specs.Reach.{row_of}
use Rattle.icode.specs.declared.instruction.Instruction.TheVariants.{Invoke}
use Rattle.icode.specs.declared.code.Routine.{Routine}
use Rattle.icode.specs.declared.code.Routine.TheVariants as routine
use Rattle.icode.specs.Heights.{HasHeights}
use Rattle.icode.specs.Made.{IsMade}
use Rattle.lower.specs.Lowering.{serves, vectors_of, program_code}
use Rattle.lower.specs.Tracking.{IsProgram}

-- a program whose trees are well formed
abbrev pub IsWellFormed : Names → Type 0
IsWellFormed names = IsProgram (sizes_of names) (procedures_of names) (vectors_of names) (main_tree names)

-- every checked program is one
abbrev pub CheckedLaw : Type 0
CheckedLaw = (program : Program) (names : Names) → AreTyped program names → IsWellFormed names

-- Code of well-formed trees: heights can be told, jumps lead to instructions, main and a procedure call those that their trees call, and none that serves an interrupt is called.
pub record IsSound (names : Names) : Type 0 where
  pub has_heights : (r : Routine) → HasHeights (program_code names r)
  pub made : (r : Routine) → IsMade (program_code names r)
  pub calls : (p q k : ℕ) → slice_get (program_code names (routine.Procedure p)) k ≡ Some (Invoke q) → Contains (row_of (slice_get (graph_of (procedures_of names)) p)) q
  pub main_calls : (q k : ℕ) → slice_get (program_code names routine.Main) k ≡ Some (Invoke q) → Contains (statements_calls (main_tree names)) q
  pub uncalled : (r : Routine) (q k : ℕ) → slice_get (program_code names r) k ≡ Some (Invoke q) → serves (vectors_of names) q ≡ false

abbrev pub SoundLaw : Type 0
SoundLaw = (names : Names) → IsWellFormed names → IsSound names
