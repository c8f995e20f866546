use Rattle.std.proofs.Common.{◌≡◌, drop, None}
use Rattle.plm_decl.specs.Least.{least}
use Rattle.plm_decl.proofs.found.least.Given as goal

abbrev pub invariant-loop-found : goal.invariant-loop-found
invariant-loop-found l = least l.first (drop l.found-index l.faults) ≡ least None l.faults
