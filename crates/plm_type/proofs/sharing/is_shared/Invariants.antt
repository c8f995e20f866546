use Rattle.std.proofs.Common.{◌≡◌, false, drop}
use Rattle.plm_type.specs.Inner.Reach.{marks_of, marked_twice}
use Rattle.plm_type.proofs.sharing.is_shared.Given as goal

abbrev pub invariant-loop-marks : goal.invariant-loop-marks
invariant-loop-marks l = marked_twice l.procedure l.is_reached (marks_of (drop l.marks-index l.roots)) ≡ marked_twice l.procedure false (marks_of l.roots)
