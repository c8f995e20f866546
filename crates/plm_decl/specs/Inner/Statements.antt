-- What stands before the body of a DO with an index, and an IF with ELSE.
use Rattle.std.specs.Prelude.{List, Option}
use Rattle.plm_syntax.specs.Tree.{ExpressionT}
use Rattle.plm_decl.specs.declared.resolved.Binding.{Binding}
use Rattle.plm_decl.specs.declared.resolved.Bounds.{Bounds}
use Rattle.plm_decl.specs.Scope.{Frame}
use Rattle.plm_decl.specs.Uses.{used}
use Rattle.plm_decl.specs.Resolved.{ExpressionR, StatementR, StatementsR, IfElseR, IterateR}
use Rattle.plm_decl.specs.ResolvedView as view
use Rattle.plm_decl.specs.Expressions.{expression}
use Rattle.plm_syntax.specs.declared.tree.Position.{Position}
use Rattle.plm_syntax.specs.Terminal.{NameT}
use Rattle.plm_decl.specs.Resolver.{Known}
use Rattle.plm_decl.specs.Statements.{step_for}

-- ---- DO with an index

pub record BoundsR : Type 0 where
  pub binding : Binding
  pub from : ExpressionR
  pub to : ExpressionR
  pub step : Option ExpressionR

abbrev pub bounds_of : Bounds → BoundsR
bounds_of b = record { binding = b.binding; from = view.expression_of b.from; to = view.expression_of b.to; step = view.step_of b.step }

abbrev pub bounds_for : List Frame → NameT → ExpressionT → ExpressionT → Option ExpressionT → Known → BoundsR × Known
bounds_for frames i a b s k =
    let m = used frames i k in let r = expression frames a m.1 in let q = expression frames b r.1 in let u = step_for frames s q.1 in
    (record { binding = m.0; from = r.0; to = q.0; step = u.0 }, u.1)

abbrev pub iterated : Position → Position → BoundsR → StatementsR × Known → StatementR × Known
iterated p i b r = (IterateR p i b.binding b.from b.to b.step r.0, r.1)

-- ---- IF with ELSE

abbrev pub with_alternative : Position → ExpressionR → StatementR → StatementR × Known → StatementR × Known
with_alternative p e s r = (IfElseR p e s r.0, r.1)
