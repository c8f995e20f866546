use Rattle.std.proofs.Common.{◌≡◌, ℕ, ◌<◌, length}
use Rattle.plm_type.specs.Inner.Reach.{rows}
use Rattle.plm_type.proofs.Ordering.{Ranked}
use Rattle.plm_type.proofs.reach.search_ranks.Given as goal

abbrev pub invariant-loop-procedure : goal.invariant-loop-procedure
invariant-loop-procedure l =
    record {
      long : length l.ranks.items ≡ l.procedure;
      ranked : (q : ℕ) → q < l.procedure → Ranked (rows l.graph) l.ranks.items q;
    }
