use Rattle.std.proofs.Common.{◌≡◌, ℕ, ◌<◌, ◌↔◌, length}
use Rattle.plm_type.specs.Inner.Reach.{IsMarked}
use Rattle.plm_type.specs.Interrupts as spec
use Rattle.plm_type.proofs.interrupts.misused.Given as goal

abbrev pub invariant-loop-number : goal.invariant-loop-number
invariant-loop-number l =
    record {
      long : length l.marks.items ≡ l.number;
      exact : (p : ℕ) → p < l.number → IsMarked l.marks.items p ↔ spec.IsMisused l.names p;
    }
