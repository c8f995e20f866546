use Rattle.std.proofs.Common.{◌≡◌, map, drop}
use Rattle.plm_syntax.specs.View.{value_of}
use Rattle.plm_decl.specs.Inner.Scope.{frames_of}
use Rattle.plm_decl.specs.Inner.Resolver.{known_of}
use Rattle.plm_decl.specs.Inner.Fill.{filling_of}
use Rattle.plm_decl.specs.Fill.{filled_from}
use Rattle.plm_decl.proofs.resolver.Resolver.fill.Given as goal

abbrev pub invariant-loop-value : goal.invariant-loop-value
invariant-loop-value l =
    filled_from (frames_of l.scope) (filling_of l.filling) l.cursor (map value_of (drop l.value-index l.values)) (known_of l.self)
    ≡ filled_from (frames_of l.scope) (filling_of l.filling) l.initial.cursor (map value_of l.values) (known_of l.initial.self)
