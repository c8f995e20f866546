use Rattle.std.proofs.Common.{ℕ, ◌<◌, Contains, slice_get, slice_index_or}
use Rattle.plm_type.specs.Inner.Reach.{rows}
use Rattle.plm_type.specs.Reach.{row_of}
use Rattle.plm_type.proofs.order.are_ranks.Given as goal

abbrev pub invariant-loop-procedure : goal.invariant-loop-procedure
invariant-loop-procedure l = (p : ℕ) → p < l.procedure → (q : ℕ) → Contains (row_of (slice_get (rows l.graph) p)) q → slice_index_or l.ranks q 0 < slice_index_or l.ranks p 0
