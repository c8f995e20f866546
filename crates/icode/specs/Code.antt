-- A program's instructions, routine by routine, and which routine serves a vector.
use Rattle.std.specs.Prelude.{ℕ, List, [], ◌∷◌, Option, Some, None, slice_get, position}
use Rattle.icode.specs.declared.instruction.Instruction.{Instruction}
use Rattle.icode.specs.declared.instruction.Instruction.TheVariants.{Finish}
use Rattle.icode.specs.declared.code.Routine.{Routine}
use Rattle.icode.specs.declared.code.Routine.TheVariants.{Main, Procedure, Unserved, Nowhere}
use Rattle.icode.specs.declared.code.Code.{Code}
use Rattle.icode.specs.Heights.{instructions_of}
use Rattle.icode.specs.Vectors.{is_number}

abbrev pub code_of : Code → Routine → List Instruction
code_of c Main = c.main.items
code_of c (Procedure k) = instructions_of (slice_get c.procedures.items k)
code_of c Unserved = Finish ∷ []
code_of c Nowhere = []

abbrev pub procedure_or_none : Option ℕ → Routine
procedure_or_none (Some k) = Procedure k
procedure_or_none None = Unserved

-- the first procedure with this vector
abbrev pub serving : Code → ℕ → Routine
serving c v = procedure_or_none (position (λ p. is_number p.vector v) c.procedures.items)
