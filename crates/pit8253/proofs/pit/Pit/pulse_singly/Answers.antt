use Rattle.pit8253.specs.Channel.{shown}
use Rattle.pit8253.proofs.RoseLemmas.{rose_match}
use Rattle.pit8253.proofs.EachCall.{pulses_zero_on, match_on}
use Rattle.pit8253.proofs.pit.Pit.pulse_singly.Goals as goal

pub returns-clause-moved : goal.returns-clause-moved
returns-clause-moved c = λ d h. record {
  same_zero = pulses_zero_on c.args.k (shown c.advance_singly-rose.new.channel) (shown c.args.self.now.zero) d.zero c.advance_singly-rose.ensures.moved h.same_zero;
  same_one = pulses_zero_on c.args.k (shown c.advance_singly.new.channel) (shown c.args.self.now.one) d.one c.advance_singly.ensures.moved h.same_one;
  same_two = pulses_zero_on c.args.k (shown c.advance_singly-2.new.channel) (shown c.args.self.now.two) d.two c.advance_singly-2.ensures.moved h.same_two;
}

pub returns-clause-rose : goal.returns-clause-rose
returns-clause-rose c = λ d h. match_on c.advance_singly-rose.result c.args.k (shown c.args.self.now.zero) d.zero h.same_zero c.advance_singly-rose.ensures.rose

pub returns-clause-test : goal.returns-clause-test
returns-clause-test c = λ d h. rose_match c.advance_singly-rose.result c.args.k d.zero
    (match_on c.advance_singly-rose.result c.args.k (shown c.args.self.now.zero) d.zero h.same_zero c.advance_singly-rose.ensures.rose)
