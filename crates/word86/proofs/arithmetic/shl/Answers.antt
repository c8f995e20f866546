use Rattle.std.proofs.Common.{sym}
use Rattle.word86.proofs.Shifts.{shifted_out}
use Rattle.word86.proofs.arithmetic.shl.Goals as goal

pub returns-then-count-ge16 : goal.returns-then-count-ge16
returns-then-count-ge16 c = sym (shifted_out c.args.width c.args.value c.args.count c.if-count-ge16.true)
