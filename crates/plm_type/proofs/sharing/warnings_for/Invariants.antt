use Rattle.std.proofs.Common.{◌≡◌, ◌++◌, false, drop}
use Rattle.plm_type.specs.Inner.Reach.{marks_of, marked_twice}
use Rattle.plm_type.specs.Sharing.{warnings_of}
use Rattle.plm_type.proofs.sharing.warnings_for.Given as goal

abbrev pub invariant-loop-number : goal.invariant-loop-number
invariant-loop-number l =
    l.warnings.items ++ warnings_of (λ p. marked_twice p false (marks_of l.roots)) l.number (drop l.number l.procedures)
    ≡ warnings_of (λ p. marked_twice p false (marks_of l.roots)) 0 l.procedures
