use Rattle.std.proofs.Common.{◌≡◌, vec_len}
use Rattle.plm86.proofs.outputs.paths_of.Given as goal

abbrev pub invariant-loop-file : goal.invariant-loop-file
invariant-loop-file g l = vec_len l.paths ≡ l.file-index
