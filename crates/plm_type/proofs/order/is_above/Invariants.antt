use Rattle.std.proofs.Common.{ℕ, ◌<◌, Contains, take, slice_index_or}
use Rattle.plm_type.proofs.order.is_above.Given as goal

abbrev pub invariant-loop-other : goal.invariant-loop-other
invariant-loop-other l = (q : ℕ) → Contains (take l.other-index l.called) q → slice_index_or l.ranks q 0 < l.rank
