use Rattle.std.proofs.Common.{◌≡◌, ℕ, ◌<◌, ◌⊎◌, length, slice_get, Contains}
use Rattle.plm_type.specs.Inner.Reach.{rows, IsMarked}
use Rattle.plm_type.specs.Reach.{row_of}
use Rattle.plm_type.proofs.interrupts.called_anywhere.Given as goal

abbrev pub invariant-loop-procedure : goal.invariant-loop-procedure
invariant-loop-procedure l =
    record {
      long : length l.marks.items ≡ length l.graph;
      main : (k : ℕ) → k < length l.graph → Contains l.main k → IsMarked l.marks.items k;
      each : (q k : ℕ) → q < l.procedure → k < length l.graph → Contains (row_of (slice_get (rows l.graph) q)) k → IsMarked l.marks.items k;
      only : (k : ℕ) → IsMarked l.marks.items k → Contains l.main k ⊎ ((q : ℕ) × Contains (row_of (slice_get (rows l.graph) q)) k);
    }
