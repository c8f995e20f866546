use Rattle.std.proofs.Common.{◌≡◌, drop, bytes_eq, find}
use Rattle.plm_decl.specs.Builtin.{spelling}
use Rattle.plm_decl.proofs.builtin.among.Given as goal

abbrev pub invariant-loop-builtin : goal.invariant-loop-builtin
invariant-loop-builtin l = find (λ b. bytes_eq l.name (spelling b)) l.builtins ≡ find (λ b. bytes_eq l.name (spelling b)) (drop l.builtin-index l.builtins)
