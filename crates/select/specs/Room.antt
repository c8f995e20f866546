-- How many bytes the parts of a program have at most.
use Rattle.std.specs.Prelude.{ℕ, zero, suc, ◌+◌, ◌≤◌, List, [], ◌∷◌, length}
use Rattle.std.specs.List.{sum_by}
use Rattle.icode.specs.declared.code.Routine.{Routine}
use Rattle.icode.specs.declared.code.Routine.TheVariants.{Main, Procedure}
use Rattle.icode.specs.declared.code.Code.{Code}
use Rattle.icode.specs.declared.registers.Registers.{Registers}
use Rattle.icode.specs.Code.{code_of}
use Rattle.icode.specs.Room.{room_in}
use Rattle.select.specs.declared.part.Part.{Part}
use Rattle.select.specs.Selection.{IsPartOf, ArePartsOf, AreParts}

-- of a routine: what its instructions take, and the pushes of at most five registers
abbrev pub room_of : Code → Routine → ℕ
room_of c r = room_in (code_of c r) + 5

-- of these routines
abbrev pub room_for : Code → List Routine → ℕ
room_for c [] = 0
room_for c (r ∷ rs) = room_of c r + room_for c rs

-- of the procedures with a number below this one
abbrev pub room_below : Code → ℕ → ℕ
room_below c zero = 0
room_below c (suc q) = room_below c q + room_of c (Procedure q)

-- Each part of a routine, and the parts of some routines together, whatever number the first of them has.
abbrev pub PartsHaveRoom : Type 0
PartsHaveRoom =
    (c : Code) (saves : Routine → Registers) (own : ℕ)
    → ((r : Routine) (p : Part) → IsPartOf c saves own r p → length p.bytes.items ≤ room_of c r)
    × ((rs : List Routine) (ps : List Part) → ArePartsOf c saves own rs ps → sum_by (λ p. length p.bytes.items) ps ≤ room_for c rs)

-- The parts of a whole program: main's, those of its procedures, and the one for the vectors without a procedure.
abbrev pub ProgramsHaveRoom : Type 0
ProgramsHaveRoom = (c : Code) (parts : List Part) → AreParts c parts → sum_by (λ p. length p.bytes.items) parts ≤ room_of c Main + room_below c (length c.procedures.items) + 11
