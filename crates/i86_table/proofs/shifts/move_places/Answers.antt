use Rattle.std.proofs.Common.{sym, ◌∙◌, arith}
use Rattle.i86_table.proofs.Steps.{moved_end}
use Rattle.i86_table.proofs.shifts.move_places.Goals as goal

pub returns-clause-value : goal.returns-clause-value
returns-clause-value c = sym (moved_end c.args.operation c.args.width c.args.count c.loop.counter c.loop.value c.loop.out (omega arith)) ∙ c.loop.invariant.same
