use Rattle.std.proofs.Common.{◌≡◌, ◌++◌, drop}
use Rattle.select.specs.Rows.{plain}
use Rattle.select.proofs.put.all.Given as goal

-- what is put, and what is left, is all
abbrev pub invariant-loop-instruction : goal.invariant-loop-instruction
invariant-loop-instruction l = l.fn.steps.items ++ plain l.instructions ≡ l.steps.items ++ plain (drop l.instruction-index l.instructions)
