use Rattle.std.proofs.Common.{◌≡◌, map, drop}
use Rattle.plm_syntax.specs.View.{reference_of}
use Rattle.plm_decl.specs.Inner.Scope.{frames_of}
use Rattle.plm_decl.specs.Inner.Resolver.{known_of}
use Rattle.plm_decl.specs.Resolved.{no_references}
use Rattle.plm_decl.specs.ResolvedView.{references_of}
use Rattle.plm_decl.specs.Statements.{targets_from}
use Rattle.plm_decl.proofs.resolver.Resolver.references.Given as goal

abbrev pub invariant-loop-reference : goal.invariant-loop-reference
invariant-loop-reference l =
    targets_from (frames_of l.scope) (references_of l.resolved.items) (map reference_of (drop l.reference-index l.references)) (known_of l.self)
    ≡ targets_from (frames_of l.scope) no_references (map reference_of l.references) (known_of l.initial.self)
