use Rattle.std.proofs.Common.{◌≡◌, ◌-◌, ◌<◌, ◌≤◌, ℕ, Bool, true, get_or}
use Rattle.std.specs.Int.{bit_at}
use Rattle.plm_syntax.specs.Inner.Known.{Pass}
use Rattle.plm_syntax.proofs.known.Grounds.add.Given as goal

abbrev pub invariant-loop-k : goal.invariant-loop-k
invariant-loop-k l =
    (l.self.level ≡ l.fn.self.level)
    × ((test : ℕ → ℕ → Bool) → Pass test l.self.assumed → Pass test l.fn.self.assumed × ((i bit : ℕ) → l.fewer ≤ i → i < l.k → bit_at (get_or l.other.assumed (i - l.fewer) 0) bit ≡ 1 → test i bit ≡ true))
