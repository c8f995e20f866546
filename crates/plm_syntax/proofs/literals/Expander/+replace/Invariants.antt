use Rattle.std.proofs.Common.{◌+◌, ◌-◌, ◌*◌, length, map}
use Rattle.plm_syntax.specs.Inner.Scope.{named_symbol}
use Rattle.plm_syntax.specs.Inner.Literals.{out_of}
use Rattle.plm_syntax.proofs.Passed.{Putting}
use Rattle.plm_syntax.proofs.literals.Expander.+replace.Given as goal

abbrev pub decreases-put_symbol : goal.decreases-put_symbol
decreases-put_symbol l = 3 * l.depth

abbrev pub decreases-put_next : goal.decreases-put_next
decreases-put_next l = 3 * l.depth + 1

abbrev pub decreases-put_literal : goal.decreases-put_literal
decreases-put_literal l = 3 * l.depth + 2

abbrev pub decreases-put_literal-loop-at : goal.decreases-put_literal-loop-at
decreases-put_literal-loop-at l = length l.text - l.at

abbrev pub invariant-put_literal-loop-at : goal.invariant-put_literal-loop-at
invariant-put_literal-loop-at l = Putting l.depth l.line (map named_symbol l.text) l.index l.at (out_of l.fn.self) (out_of l.self)
