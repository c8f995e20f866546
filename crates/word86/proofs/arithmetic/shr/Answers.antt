use Rattle.std.proofs.Common.{sym}
use Rattle.word86.proofs.Shifts.{shifted_down}
use Rattle.word86.proofs.arithmetic.shr.Goals as goal

pub returns-then-count-ge16 : goal.returns-then-count-ge16
returns-then-count-ge16 c = sym (shifted_down c.args.width c.args.value c.args.count c.if-count-ge16.true)
