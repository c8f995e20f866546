use Rattle.std.proofs.Common.{◌≡◌, drop}
use Rattle.plm_decl.specs.Inner.Resolver.{known_of}
use Rattle.plm_decl.specs.Joins.{same_parameters}
use Rattle.plm_decl.proofs.resolver.Resolver.same_parameters.Given as goal

abbrev pub invariant-loop-parameter : goal.invariant-loop-parameter
invariant-loop-parameter l = same_parameters (known_of l.self) (drop l.parameter-index l.a) l.others ≡ same_parameters (known_of l.self) l.a l.b
