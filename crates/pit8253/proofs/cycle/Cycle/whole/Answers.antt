use Rattle.std.proofs.Common.{◌<◌, arith, inr}
use Rattle.pit8253.proofs.Phases.{whole_part, whole_rest}
use Rattle.pit8253.proofs.cycle.Cycle.whole.Goals as goal

pub returns-clause-part : goal.returns-clause-part
returns-clause-part c = inr (c.requires, inr (whole_part c.args.self.now.next c.from-k.result))

pub returns-clause-rest : goal.returns-clause-rest
returns-clause-rest c =
    let s = c.args.self.now in
    let some : 0 < s.next = omega arith in
    rw c.from-k.ensures (whole_rest s.waveform s.period s.next s.pulses c.args.k some c.requires)
