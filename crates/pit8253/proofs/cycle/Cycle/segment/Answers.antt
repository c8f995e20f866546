use Rattle.std.proofs.Common.{◌≡◌, ◌<◌, ◌≤◌, ◌⊎◌, arith, inl, inr, ◌∙◌}
use Rattle.pit8253.specs.Element.{view}
use Rattle.pit8253.proofs.Phases.{fits_inside, moved_none, inside_moved, inside_still, start_moved}
use Rattle.pit8253.proofs.cycle.Cycle.segment.Goals as goal
use Rattle.pit8253.proofs.cycle.Cycle.segment.Goals.{then-k-self, else-k-self}

pub returns-then-k-eq0-clause-moved : goal.returns-then-k-eq0-clause-moved
returns-then-k-eq0-clause-moved c = moved_none (view c.args.self.now) c.args.k (omega arith)

pub returns-then-not-is_at_start-clause-moved : goal.returns-then-not-is_at_start-clause-moved
returns-then-not-is_at_start-clause-moved c =
    let s = c.args.self.now in
    rw c.from-k.ensures (inside_moved s.waveform s.period s.next s.pulses c.args.k (omega arith) c.if-not-is_at_start.ensures c.requires)

pub returns-then-not-is_at_start-clause-rose : goal.returns-then-not-is_at_start-clause-rose
returns-then-not-is_at_start-clause-rose c =
    let s = c.args.self.now in
    inside_still s.waveform s.period s.next s.pulses c.args.k (omega arith) c.if-not-is_at_start.ensures c.requires

pub returns-clause-moved : goal.returns-clause-moved
returns-clause-moved c =
    let s = c.args.self.now in
    let some : 0 < c.args.k = omega arith in
    let more : 0 < s.next = omega arith in
    let x : ((c.args.k ≤ s.next) × (c.if-k-self.self ≡ c.args.k)) ⊎ ((s.next < c.args.k) × (c.if-k-self.self ≡ s.next)) =
    elim c.if-k-self.branch [ then-k-self w ↦ inl (omega arith, w.self-is ∙ c.from-k.ensures) | else-k-self w ↦ inr (omega arith, w.self-is) ] in
    start_moved s.waveform s.period s.next s.pulses c.args.k c.if-k-self.self c.if-not-is_at_start.ensures more some c.requires x

pub invariant_of-self-clause-pulses_fit : goal.invariant_of-self-clause-pulses_fit
invariant_of-self-clause-pulses_fit c =
    let s = c.args.self.now in
    rw c.from-k.ensures (fits_inside s.period s.next s.pulses c.args.k (omega arith) c.if-not-is_at_start.ensures c.requires)
