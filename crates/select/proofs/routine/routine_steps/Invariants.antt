use Rattle.std.proofs.Common.{◌≡◌, ◌++◌, drop}
use Rattle.std.specs.Prelude.{slice_index}
use Rattle.select.specs.Rows.{plain, saved, registers_of, rows}
use Rattle.select.specs.Inner.Numbering.{step_at}
use Rattle.select.proofs.routine.routine_steps.Given as goal

-- so far, and the rows that are left, is all
abbrev pub invariant-loop-k : goal.invariant-loop-k
invariant-loop-k l =
    l.steps.items ++ rows (step_at l.firsts.items) (slice_index l.parts) l.saves l.k (drop l.k l.instructions)
    ≡ plain (saved (registers_of l.saves)) ++ rows (step_at l.firsts.items) (slice_index l.parts) l.saves 0 l.instructions
