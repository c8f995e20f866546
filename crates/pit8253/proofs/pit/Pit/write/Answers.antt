use Rattle.std.proofs.Common.{arith}
use Rattle.pit8253.specs.Channel.{shown}
use Rattle.pit8253.specs.Pit.{timer_shown}
use Rattle.pit8253.proofs.EachCall.{written_zero, written_one, written_two, written_none}
use Rattle.pit8253.proofs.pit.Pit.write.Goals as goal

pub returns-in-0 : goal.returns-in-0
returns-in-0 c = rw c.in-0.is (λ d h. written_zero c.args.v (timer_shown c.args.self.now) (shown c.write.new.self) d c.write.ensures h)

pub returns-in-1 : goal.returns-in-1
returns-in-1 c = rw c.in-1.is (λ d h. written_one c.args.v (timer_shown c.args.self.now) (shown c.write-in-1.new.self) d c.write-in-1.ensures h)

pub returns-in-2 : goal.returns-in-2
returns-in-2 c = rw c.in-2.is (λ d h. written_two c.args.v (timer_shown c.args.self.now) (shown c.write-in-2.new.self) d c.write-in-2.ensures h)

pub returns-in_default : goal.returns-in_default
returns-in_default c = λ d h. written_none c.args.n c.args.v (timer_shown c.args.self.now) d (omega arith) h
