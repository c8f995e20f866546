use Rattle.std.proofs.Common.{◌≡◌, vec_len}
use Rattle.plm86.proofs.outputs.destinations_of.Given as goal

abbrev pub invariant-loop-path : goal.invariant-loop-path
invariant-loop-path g l = vec_len l.destinations ≡ l.path-index
