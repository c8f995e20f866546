-- Where the instructions of a routine lie in its part.
use Rattle.std.specs.Prelude.{◌≡◌, ℕ, suc, ◌≤◌, ◌%◌, List, length, map, slice_index}
use Rattle.icode.specs.declared.code.Routine.{Routine}
use Rattle.icode.specs.declared.code.Code.{Code}
use Rattle.icode.specs.declared.registers.Registers.{Registers}
use Rattle.icode.specs.Code.{code_of}
use Rattle.select.specs.Parts.{extent_of}
use Rattle.select.specs.Sizes.{start, AreSettled, AreLeast}
use Rattle.select.specs.Rows.{routine, first_of}
use Rattle.select.specs.Selection.{part_of, AreSavedBy}

-- each instruction begins where its first step does, and the last place is the end of the part, modulo 65,536
pub record AreRowPlaces (c : Code) (r : Routine) (places : List ℕ) : Type 0 where
  pub saves : Routine → Registers
  pub saved : AreSavedBy c saves
  pub sizes : List ℕ
  pub settled : AreSettled (map extent_of (routine (part_of c) (saves r) (code_of c r))) sizes
  pub least : AreLeast (map extent_of (routine (part_of c) (saves r) (code_of c r))) sizes
  pub many : length places ≡ suc (length (code_of c r))
  pub each : (k : ℕ) → k ≤ length (code_of c r) → slice_index places k ≡ start sizes (first_of (saves r) (code_of c r) k) % 65536
