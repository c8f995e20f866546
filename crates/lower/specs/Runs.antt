-- What lowering promises of every run of a program's code, whatever is answered and wherever the objects lie.
use Rattle.std.specs.Prelude.{◌≡◌, ℕ, List, [], Some, slice_get}
use Rattle.word86.specs.Access.{Access}
use Rattle.word86.specs.Action.{Action, Enable, Halt, Over}
use Rattle.plm_decl.specs.declared.names.Names.{Names}
use Rattle.plm_type.specs.declared.checked.Program.{Program}
use Rattle.plm_type.specs.Checked.{AreTyped}
use Rattle.plm_type.specs.Programs.{handler_number}
use Rattle.icode.specs.declared.code.Routine.{Routine}
use Rattle.icode.specs.declared.code.Routine.TheVariants.{Main}
use Rattle.icode.specs.declared.code.Word.{Word}
use Rattle.icode.specs.declared.instruction.Instruction.TheVariants.{Finish}
use Rattle.icode.specs.Code.{procedure_or_none}
use Rattle.icode.specs.Machine.{Context, At, does}
use Rattle.icode.specs.Runs.{Comes}
use Rattle.lower.specs.Lowering.{program_code}
use Rattle.lower.specs.Checked.{IsWellFormed}

module _ (names : Names) where
  abbrev pub runs_in : (offsets sizes : List ℕ) → Context → Action Access Context
  runs_in offsets sizes = does offsets sizes (program_code names)

  -- what an interrupt with this vector enters
  abbrev pub entered : (vector : ℕ) → Routine
  entered v = procedure_or_none (handler_number names v)

  -- Main is never used up. An interrupt comes to no ENABLE or HALT, and is used up in the procedure that it entered.
  pub record RunsAreAllowed : Type 0 where
    pub main_goes_on : (offsets sizes : List ℕ) (n a : ℕ) (c : Context) → Comes (runs_in offsets sizes) (At Main 0 a []) n c → runs_in offsets sizes c ≡ Over → ⊥
    pub none_enables : (offsets sizes : List ℕ) (v n a : ℕ) (c d : Context) → Comes (runs_in offsets sizes) (At (entered v) 0 a []) n c → runs_in offsets sizes c ≡ Enable d → ⊥
    pub none_halts : (offsets sizes : List ℕ) (v n a : ℕ) (c d : Context) → Comes (runs_in offsets sizes) (At (entered v) 0 a []) n c → runs_in offsets sizes c ≡ Halt d → ⊥
    pub own_end : (offsets sizes : List ℕ) (v n a : ℕ) (r : Routine) (k b : ℕ) (ws : List Word)
        → Comes (runs_in offsets sizes) (At (entered v) 0 a []) n (At r k b ws) → slice_get (program_code names r) k ≡ Some Finish → r ≡ entered v

-- for every checked program whose trees are well formed
abbrev pub RunsLaw : Type 0
RunsLaw = (program : Program) (names : Names) → AreTyped program names → IsWellFormed names → RunsAreAllowed names
