use Rattle.std.proofs.Common.{◌≡◌, ◌-◌, ◌<◌, ℕ, Bool, true, get_or}
use Rattle.std.specs.Int.{bit_at}
use Rattle.plm_syntax.specs.Inner.Known.{Pass}
use Rattle.plm_syntax.proofs.known.Known.all_hold.Given as goal

abbrev pub invariant-loop-k : goal.invariant-loop-k
invariant-loop-k l = (test : ℕ → ℕ → Bool) → Pass test l.self.holds → (i bit : ℕ) → i < l.k → bit_at (get_or l.grounds.assumed i 0) bit ≡ 1 → test (l.depth - i) bit ≡ true
