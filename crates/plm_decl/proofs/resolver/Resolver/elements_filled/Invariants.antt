use Rattle.std.proofs.Common.{◌≡◌, map, drop}
use Rattle.plm_syntax.specs.View.{value_of}
use Rattle.plm_decl.specs.Inner.Resolver.{known_of}
use Rattle.plm_decl.specs.Shape.{all_scalars_filled}
use Rattle.plm_decl.proofs.resolver.Resolver.elements_filled.Given as goal

abbrev pub invariant-loop-value : goal.invariant-loop-value
invariant-loop-value l =
    all_scalars_filled (known_of l.self) l.form l.filled (map value_of (drop l.value-index l.values))
    ≡ all_scalars_filled (known_of l.self) l.form 0 (map value_of l.values)
