use Rattle.std.proofs.Common.{◌≡◌, ◌-◌, ℕ, true, get_or, below_more, subst, arith}
use Rattle.std.specs.Int.{bit_at}
use Rattle.plm_syntax.proofs.Facts.{bits_among}
use Rattle.plm_syntax.proofs.known.Known.all_hold.Goals as goal

pub loop-k-preserved : goal.loop-k-preserved
loop-k-preserved c = λ test h i bit lt b.
    let words = c.args.grounds.now.assumed in
    let k : ℕ = c.loop-k.k in
    below_more (λ i. (bit : ℕ) → bit_at (get_or words i 0) bit ≡ 1 → test (c.args.depth - i) bit ≡ true) k (λ i lt bit b. c.loop-k.invariant test h i bit lt b)
    (λ bit b. subst (λ (n : ℕ). test n bit ≡ true) c.saturating_sub.ensures (c.holding.ensures test h bit (bits_among c.holding.result (get_or words k 0) bit c.if-holding-word.false b))) i lt bit b

pub returns : goal.returns
returns c = λ e test h k bit lt b. c.loop-k.invariant test h k bit (omega arith) b
