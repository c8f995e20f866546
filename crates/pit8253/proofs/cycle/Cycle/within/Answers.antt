use Rattle.std.proofs.Common.{◌≡◌, ◌-◌, ◌%◌, ◌<◌, ◌≤◌, ◌≢◌, ◌⊎◌, arith, inl, inr}
use Rattle.pit8253.proofs.Phases.{within_start}
use Rattle.pit8253.proofs.cycle.Cycle.within.Goals as goal
use Rattle.pit8253.proofs.cycle.Cycle.within.Goals.{then-is_at_start, else-is_at_start}

pub returns-else-from-left-clause-start : goal.returns-else-from-left-clause-start
returns-else-from-left-clause-start c =
    let s = c.args.self.now in
    let le : s.pulses ≤ s.period = omega arith in
    let some : 0 < s.next = omega arith in
    let x : ((s.pulses % s.period ≡ 0) × (c.if-is_at_start.left ≡ s.next)) ⊎ ((s.pulses % s.period ≢ 0) × (c.if-is_at_start.left ≡ s.period - s.pulses)) =
    elim c.if-is_at_start.branch [ then-is_at_start w ↦ inl (w.if-is_at_start.ensures, w.left-is) | else-is_at_start w ↦ inr (w.if-is_at_start.ensures, w.left-is) ] in
    λ h. within_start s.waveform s.period s.next s.pulses c.if-is_at_start.left le some x
