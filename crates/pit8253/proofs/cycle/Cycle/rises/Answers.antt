use Rattle.std.proofs.Common.{◌<◌, arith, inl, inr, sym, ◌∙◌}
use Rattle.pit8253.proofs.Phases.{start_rises, start_only, clash}
use Rattle.pit8253.proofs.cycle.Cycle.rises.Goals as goal
use Rattle.pit8253.proofs.cycle.Cycle.rises.Goals.{then-self-lt2-via-then-self-lt2, then-self-lt2-via-else-self-lt2+then-k-self}

pub returns-then-not-is_high : goal.returns-then-not-is_high
returns-then-not-is_high c =
    let s = c.args.self.now in
    let more : 0 < s.next = omega arith in
    start_rises s.waveform s.period s.next s.pulses c.args.k c.requires.start more c.requires.some (inl (sym c.is_high.ensures ∙ c.if-not-is_high.true))

pub returns-then-self-lt2 : goal.returns-then-self-lt2
returns-then-self-lt2 c =
    let s = c.args.self.now in
    let more : 0 < s.next = omega arith in
    λ r. elim (start_only s.waveform s.period s.next s.pulses c.args.k c.requires.start more c.requires.some c.requires.within r) [
      | inl low ↦ clash (sym c.if-not-is_high.false ∙ (c.is_high.ensures ∙ low))
      | inr far ↦ elim c.then-self-lt2.branch [ then-self-lt2-via-then-self-lt2 w ↦ omega (arith, far.0, far.1) | then-self-lt2-via-else-self-lt2+then-k-self w ↦ omega (arith, far.0, far.1) ]
    ]

pub returns : goal.returns
returns c =
    let s = c.args.self.now in
    let more : 0 < s.next = omega arith in
    start_rises s.waveform s.period s.next s.pulses c.args.k c.requires.start more c.requires.some (inr (omega arith, omega arith))
