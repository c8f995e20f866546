use Rattle.std.proofs.Common.{◌≡◌}
use Rattle.select.specs.Selection.{sections_before}
use Rattle.select.proofs.selection.sections_before.Given as goal

abbrev pub invariant-loop-k : goal.invariant-loop-k
invariant-loop-k l = l.routines.items ≡ sections_before l.code l.k
