use Rattle.std.proofs.Common.{◌≡◌, take}
use Rattle.plm_syntax.specs.View.{statements_of, items_of}
use Rattle.plm_decl.specs.Inner.Scope.{frames_of}
use Rattle.plm_decl.specs.Inner.Resolver.{known_of}
use Rattle.plm_decl.specs.ResolvedView as view
use Rattle.plm_decl.specs.Statements.{statements, with_items}
use Rattle.plm_decl.proofs.resolver.Resolver.+statement.Given as goal

abbrev pub invariant-statements-loop-statement : goal.invariant-statements-loop-statement
invariant-statements-loop-statement l =
    (view.statements_of l.resolved.items, known_of l.self) ≡ statements (frames_of l.scope) (statements_of (take l.statement-index l.statements)) (known_of l.initial.self)

abbrev pub invariant-items-loop-item : goal.invariant-items-loop-item
invariant-items-loop-item l =
    (frames_of l.scope, known_of l.self) ≡ with_items (frames_of l.initial.scope) (items_of (take l.item-index l.items)) (known_of l.initial.self)
