use Rattle.std.proofs.Common.{◌≡◌}
use Rattle.plm_syntax.specs.Inner.Literals.{blocks_in}
use Rattle.plm_syntax.proofs.scope.Scope.rebase.Given as goal

abbrev pub invariant-loop-literal : goal.invariant-loop-literal
invariant-loop-literal l = (blocks_in l.self ≡ blocks_in l.fn.self) × (l.self.names ≡ l.fn.self.names)
