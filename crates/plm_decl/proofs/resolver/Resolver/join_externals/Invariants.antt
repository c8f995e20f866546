use Rattle.std.proofs.Common.{◌≡◌, map, drop}
use Rattle.plm_decl.specs.Inner.Resolver.{known_of, external_of}
use Rattle.plm_decl.specs.Joins.{externals_joined}
use Rattle.plm_decl.proofs.resolver.Resolver.join_externals.Given as goal

abbrev pub invariant-loop-external : goal.invariant-loop-external
invariant-loop-external l =
    externals_joined (map external_of (drop l.external-index l.externals)) (known_of l.self)
    ≡ externals_joined (map external_of l.externals) (known_of l.initial.self)
