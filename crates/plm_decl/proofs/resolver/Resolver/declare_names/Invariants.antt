use Rattle.std.proofs.Common.{◌≡◌, map, drop}
use Rattle.plm_syntax.specs.View.{variable_of}
use Rattle.plm_decl.specs.Inner.Scope.{frames_of}
use Rattle.plm_decl.specs.Inner.Resolver.{known_of}
use Rattle.plm_decl.specs.Elements.{declared_variables}
use Rattle.plm_decl.proofs.resolver.Resolver.declare_names.Given as goal

abbrev pub invariant-loop-name : goal.invariant-loop-name
invariant-loop-name l =
    declared_variables (map variable_of (drop l.name-index l.names)) l.traits l.site (frames_of l.scope) (known_of l.self)
    ≡ declared_variables (map variable_of l.names) l.traits l.fn.first (frames_of l.initial.scope) (known_of l.initial.self)
