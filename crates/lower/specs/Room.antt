-- How many bytes of a ROM a program's code takes at most, for each node of the program.
use Rattle.std.specs.Prelude.{ℕ, zero, suc, ◌+◌, ◌*◌, ◌≤◌, length}
use Rattle.plm_decl.specs.declared.names.Names.{Names}
use Rattle.plm_decl.specs.Names.{main_of}
use Rattle.plm_type.specs.declared.checked.Program.{Program}
use Rattle.plm_type.specs.Checked.{AreTyped}
use Rattle.plm_type.specs.Nodes.{procedures_nodes, statements_nodes}
use Rattle.plm_type.specs.Programs.{declared_procedures}
use Rattle.icode.specs.declared.code.Routine.TheVariants as routine
use Rattle.icode.specs.Room.{room_in}
use Rattle.lower.specs.Checked.{IsWellFormed}
use Rattle.lower.specs.Lowering.{program_code}

module _ (names : Names) where
  -- of the procedures below this number
  abbrev pub procedures_room : ℕ → ℕ
  procedures_room zero = 0
  procedures_room (suc q) = procedures_room q + room_in (program_code names (routine.Procedure q))

  -- main's and the procedures': 23 bytes for each of their nodes, and main's end
  pub record HasRoom : Type 0 where
    pub main : room_in (program_code names routine.Main) ≤ 23 * statements_nodes (main_of names.main).statements + 5
    pub procedures : procedures_room (length (declared_procedures names)) + 12 * length (declared_procedures names) ≤ 23 * procedures_nodes (declared_procedures names)

-- for every checked program whose trees are well formed
abbrev pub RoomLaw : Type 0
RoomLaw = (program : Program) (names : Names) → AreTyped program names → IsWellFormed names → HasRoom names
