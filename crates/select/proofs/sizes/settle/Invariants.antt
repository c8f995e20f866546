use Rattle.std.proofs.Common.{length, map}
use Rattle.std.specs.Prelude.{sum}
use Rattle.select.specs.Inner.Settling.{longest}
use Rattle.select.specs.Inner.Settling.{IsSettling}
use Rattle.select.proofs.Lengthening.{left}
use Rattle.select.proofs.sizes.settle.Given as goal

abbrev pub invariant-loop-at : goal.invariant-loop-at
invariant-loop-at l = IsSettling l.extents l.sizes l.at

abbrev pub decreases-loop-at : goal.decreases-loop-at
decreases-loop-at l = left (sum (map longest l.extents)) (sum l.sizes) (length l.extents) l.at
