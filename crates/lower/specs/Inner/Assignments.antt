-- The code of an assignment.
use Rattle.std.specs.Prelude.{List, ◌++◌}
use Rattle.plm_type.specs.Rest.{Expression, Targets, Procedure}
use Rattle.icode.specs.declared.instruction.Instruction.{Instruction}
use Rattle.lower.specs.Expressions.{folded, subscripts_code, targets_code}
use Rattle.lower.specs.LowBytes.{given_code}
use Rattle.lower.specs.Statements.{known_store, target_subscripts, by_store}

abbrev pub assigned_code : List Procedure → Targets → Expression → List Instruction
assigned_code ps ts e = by_store (known_store ts (folded e)) (subscripts_code ps (target_subscripts ts)) (given_code ps ts e ++ targets_code ps ts)
