use Rattle.std.proofs.Common.{◌≡◌, length, take}
use Rattle.plm_syntax.specs.Inner.Names.{names_in}
use Rattle.plm_syntax.specs.Inner.Scope.{HaveNumbers}
use Rattle.plm_syntax.proofs.scope.numbers_of.Given as goal

abbrev pub invariant-loop-token : goal.invariant-loop-token
invariant-loop-token l = HaveNumbers (names_in l.names) l.text l.numbers.items × (length l.numbers.items ≡ l.token-index) × (take (length (names_in l.fn.names)) (names_in l.names) ≡ names_in l.fn.names)
