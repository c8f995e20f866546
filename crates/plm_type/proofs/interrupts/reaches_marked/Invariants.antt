use Rattle.std.proofs.Common.{ℕ, ◌<◌}
use Rattle.plm_type.specs.Inner.Reach.{IsMarked}
use Rattle.plm_type.proofs.interrupts.reaches_marked.Given as goal

abbrev pub invariant-loop-number : goal.invariant-loop-number
invariant-loop-number l =
    (q : ℕ) → q < l.number → IsMarked l.marks q → IsMarked l.found.items q → ⊥
