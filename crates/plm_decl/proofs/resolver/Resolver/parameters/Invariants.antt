use Rattle.std.proofs.Common.{◌≡◌, [], map, drop}
use Rattle.plm_syntax.specs.View.{name_of}
use Rattle.plm_decl.specs.Inner.Scope.{frames_of, entries_of}
use Rattle.plm_decl.specs.Inner.Resolver.{known_of}
use Rattle.plm_decl.specs.Procedures.{parameters_from}
use Rattle.plm_decl.proofs.resolver.Resolver.parameters.Given as goal

abbrev pub invariant-loop-name : goal.invariant-loop-name
invariant-loop-name l =
    parameters_from (frames_of l.inside) (entries_of l.listed) l.parameters.items (map name_of (drop l.name-index l.names)) (known_of l.self)
    ≡ parameters_from (frames_of l.inside) [] [] (map name_of l.names) (known_of l.initial.self)
