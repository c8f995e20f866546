use Rattle.std.proofs.Common.{◌≡◌}
use Rattle.plm_type.specs.View.{expression_of}
use Rattle.plm_meaning.specs.Context.{Expr, to_run_in}
use Rattle.plm_meaning.specs.Inner.Start.{depth}
use Rattle.plm_meaning.proofs.settle.begin_expression.Given as goal

-- what comes first in the frames put down so far is what was to begin
abbrev pub invariant-loop-redex : goal.invariant-loop-redex
invariant-loop-redex l = to_run_in l.context.frames.items (Expr (expression_of l.first)) ≡ to_run_in l.initial.context.frames.items (Expr (expression_of l.e))

abbrev pub decreases-loop-redex : goal.decreases-loop-redex
decreases-loop-redex l = depth (expression_of l.first)
