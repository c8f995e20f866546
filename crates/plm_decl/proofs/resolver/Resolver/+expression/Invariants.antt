use Rattle.std.proofs.Common.{◌≡◌, take, drop}
use Rattle.plm_syntax.specs.View.{expressions_of}
use Rattle.plm_decl.specs.Inner.Scope.{frames_of}
use Rattle.plm_decl.specs.Inner.Resolver.{known_of}
use Rattle.plm_decl.specs.Resolved.{ExpressionR}
use Rattle.plm_decl.specs.ResolvedView as view
use Rattle.plm_decl.specs.Expressions.{subscripts}
use Rattle.plm_decl.specs.Inner.Expressions.{chained}
use Rattle.plm_decl.proofs.resolver.Resolver.+expression.Given as goal

abbrev pub invariant-subscripts-loop-subscript : goal.invariant-subscripts-loop-subscript
invariant-subscripts-loop-subscript l =
    (view.expressions_of l.resolved.items, known_of l.self) ≡ subscripts (frames_of l.scope) (expressions_of (take l.subscript-index l.subscripts)) (known_of l.initial.self)

abbrev pub invariant-operations-loop-operation : goal.invariant-operations-loop-operation
invariant-operations-loop-operation l =
    (left : ExpressionR)
    → chained (frames_of l.scope) (view.leaned left l.resolved.items) (drop l.operation-index l.operations) (known_of l.self)
    ≡ chained (frames_of l.scope) left l.operations (known_of l.initial.self)
