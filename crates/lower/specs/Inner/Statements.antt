-- The code of IF, by that of what is done otherwise.
use Rattle.std.specs.Prelude.{ℕ, ◌+◌, Bool, List, length}
use Rattle.plm_type.specs.Rest.{Expression, Statements, Procedure}
use Rattle.icode.specs.declared.instruction.Instruction.{Instruction}
use Rattle.lower.specs.Conditions.{condition_code, test_of}
use Rattle.lower.specs.Statements.{Kind, over, choosing, statements_code}

abbrev pub branching : List Procedure → Kind → (condition : Expression) (arm : Statements) (silent : Bool) (otherwise : List Instruction) (exit : ℕ) → List Instruction
branching ps kind c arm silent otherwise exit =
    choosing (condition_code ps c) (test_of c) (statements_code ps kind (length (over silent otherwise exit) + length otherwise + exit) arm) silent otherwise exit
