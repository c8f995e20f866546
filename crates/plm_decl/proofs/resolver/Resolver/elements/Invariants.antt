use Rattle.std.proofs.Common.{◌≡◌, map, drop}
use Rattle.plm_syntax.specs.View.{element_of}
use Rattle.plm_decl.specs.Inner.Scope.{frames_of}
use Rattle.plm_decl.specs.Inner.Resolver.{known_of}
use Rattle.plm_decl.specs.Statements.{with_elements}
use Rattle.plm_decl.proofs.resolver.Resolver.elements.Given as goal

abbrev pub invariant-loop-element : goal.invariant-loop-element
invariant-loop-element l =
    with_elements (map element_of (drop l.element-index l.elements)) (frames_of l.scope) (known_of l.self)
    ≡ with_elements (map element_of l.elements) (frames_of l.initial.scope) (known_of l.initial.self)
