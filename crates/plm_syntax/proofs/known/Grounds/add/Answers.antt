use Rattle.std.proofs.Common.{◌≡◌, ◌-◌, ◌≤◌, ℕ, List, true, get_or, below_more, arith}
use Rattle.std.specs.Int.{bit_at}
use Rattle.plm_syntax.proofs.Facts.{passes_or}
use Rattle.plm_syntax.proofs.known.Grounds.add.Goals as goal

pub loop-k-preserved : goal.loop-k-preserved
loop-k-preserved c = (
  c.loop-k.invariant.0,
  λ test h.
      let words : List ℕ = c.loop-k.self.assumed in
      let other : List ℕ = c.args.other.now.assumed in
      let both = passes_or test words c.loop-k.k (get_or other (c.loop-k.k - c.args.fewer) 0) (omega arith) (omega arith) h in
      let before = c.loop-k.invariant.1 test both.0 in (
        before.0,
        λ i bit le lt b.
            below_more (λ i. (bit : ℕ) → c.args.fewer ≤ i → bit_at (get_or other (i - c.args.fewer) 0) bit ≡ 1 → test i bit ≡ true) c.loop-k.k (λ i lt bit le b. before.1 i bit le lt b) (λ bit le b. both.1 bit b) i lt bit le b,
      ),
)
