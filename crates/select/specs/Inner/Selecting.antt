-- The registers of a routine, from a list of those of each procedure; and routines that there are.
use Rattle.std.specs.Prelude.{ℕ, ◌<◌, List, [], ◌∷◌, Option, Some, None, slice_get, slice_index_or}
use Rattle.icode.specs.declared.code.Routine.{Routine}
use Rattle.icode.specs.declared.code.Routine.TheVariants.{Main, Procedure, Unserved, Nowhere}
use Rattle.icode.specs.declared.code.Code.{Code}
use Rattle.icode.specs.declared.registers.Registers.{Registers}
use Rattle.icode.specs.Registers.{none}
use Rattle.select.specs.Selection.{vector_in}

abbrev pub registers_if : Option ℕ → Registers → Registers
registers_if (Some v) g = g
registers_if None g = none

abbrev pub saves_in : Code → List Registers → Routine → Registers
saves_in c gs (Procedure q) = registers_if (vector_in (slice_get c.procedures.items q)) (slice_index_or gs q none)
saves_in c gs Main = none
saves_in c gs Unserved = none
saves_in c gs Nowhere = none

-- a procedure has a number below this one
abbrev pub Below : ℕ → Routine → Type 0
Below n (Procedure q) = q < n
Below n Main = Unit {0}
Below n Unserved = Unit {0}
Below n Nowhere = Unit {0}

abbrev pub AllBelow : ℕ → List Routine → Type 0
AllBelow n [] = Unit {0}
AllBelow n (r ∷ rs) = Below n r × AllBelow n rs
