-- What the simulation is in: a placement of the objects, the procedures, the code of each routine, and how many silent steps of a rest
-- may come with one instruction.
use Rattle.std.specs.Prelude.{◌≡◌, ℕ, ◌+◌, ◌≤◌, List, Some, slice_index}
use Rattle.word86.specs.Access.{In}
use Rattle.word86.specs.Place.{held}
use Rattle.plm_type.specs.Rest.{Procedure}
use Rattle.icode.specs.declared.instruction.Instruction.{Instruction}
use Rattle.icode.specs.declared.code.Routine.{Routine}

pub record Setting : Type 0 where
  pub offsets : List ℕ
  pub sizes : List ℕ
  pub procedures : List Procedure
  pub code : Routine → List Instruction
  pub room : ℕ
  pub most : ℕ
  pub big : room + 5 ≤ most
  pub wide : 5 ≤ room
  -- bytes of an object are found in it, below 65,536
  pub finds : (k i n : ℕ) → 1 ≤ n → i + n ≤ slice_index sizes k → held 0 offsets sizes (slice_index offsets k + i) n ≡ Some (In k i)
  pub low_enough : (k i n : ℕ) → 1 ≤ n → i + n ≤ slice_index sizes k → slice_index offsets k + i + n ≤ 65536
