use Rattle.std.proofs.Common.{◌-◌, arith}
use Rattle.pit8253.proofs.pit.Pit.pulse.Goals as goal

pub returns-clause-segments : goal.returns-clause-segments
returns-clause-segments c = (
  c.pulse_counted.new.segments.made - c.new.result.made,
  omega arith,
  c.pulse_counted.ensures.tied,
)
