use Rattle.std.proofs.Common.{◌/◌, arith}
use Rattle.pit8253.specs.Timer.{command}
use Rattle.pit8253.specs.Pit.{timer_shown}
use Rattle.pit8253.proofs.EachCall.{on_none_alike}
use Rattle.pit8253.proofs.pit.Pit.control.Goals as goal

pub returns-in_default : goal.returns-in_default
returns-in_default c = λ d h. on_none_alike (c.args.v / 64) (command c.args.v) (timer_shown c.args.self.now) d (omega arith) h
