-- How many values a program's routines have pushed at most.
use Rattle.std.specs.Prelude.{ℕ, ◌-◌, ◌≤◌}
use Rattle.plm_decl.specs.declared.names.Names.{Names}
use Rattle.plm_type.specs.Leaves.{most_leaves}
use Rattle.icode.specs.declared.code.Routine.{Routine}
use Rattle.icode.specs.Heights.{height}
use Rattle.lower.specs.Lowering.{program_code}

-- nowhere as many as a statement of the program has constants and references, if one has any
abbrev pub HeightLaw : Type 0
HeightLaw = (names : Names) (r : Routine) (k : ℕ) → height (program_code names r) k ≤ most_leaves names - 1
