-- The code of DO with an index, by that of its parts.
use Rattle.std.specs.Prelude.{ℕ, ◌+◌, Bool, List, ◌∷◌, ◌++◌, length}
use Rattle.plm_type.specs.declared.program.Counting.{Counting}
use Rattle.plm_type.specs.Rest.{Scalar}
use Rattle.icode.specs.declared.instruction.Instruction.{Instruction}
use Rattle.icode.specs.declared.instruction.Instruction.TheVariants as op
use Rattle.icode.specs.declared.instruction.Test.{Test}
use Rattle.lower.specs.Expressions.{Operand, Name, place_of}
use Rattle.lower.specs.Conditions.{named, unless_named, compared_by}
use Rattle.lower.specs.Statements.{within, next_round, index_read}

abbrev pub counting : (compared : List Instruction) → Test → (body again : List Instruction) (exit : ℕ) → List Instruction
counting compared t body again exit = compared ++ (op.AheadUnless t (length body + length again + exit) ∷ (body ++ again))

abbrev pub iterating : (bytes : Bool) → Counting → Scalar → (bound : Operand) (compared : List Instruction) (step : Operand) (stepped body : List Instruction) (exit : ℕ) → List Instruction
iterating bytes o x bound compared step stepped body exit =
    let index = Name x.width (place_of x.place) in
    let asked = unless_named (named bytes (within o) index bound) (index_read bytes x ∷ compared) in
    op.Store x.width (place_of x.place) ∷ counting asked (compared_by bytes (within o) index bound) body (next_round o x step stepped (length asked + length body + 1)) exit
