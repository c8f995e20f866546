use Rattle.std.proofs.Common.{sym, ◌∙◌, arith, ◌<◌}
use Rattle.pic8259.specs.Registers.{shown}
use Rattle.pic8259.proofs.Priority.{pending_served, pending_wanted}
use Rattle.pic8259.proofs.registers.Registers.pending.Goals as goal

pub returns-then-contains-clause-value : goal.returns-then-contains-clause-value
returns-then-contains-clause-value c =
    let below : c.args.self.now.lowest < 8 = omega arith in
    sym (pending_served (shown c.args.self.now) c.in_ok-first.first below (sym c.in_ok-first.ensures.value) (sym c.contains.ensures ∙ c.if-contains.true))

pub returns-clause-value : goal.returns-clause-value
returns-clause-value c =
    let below : c.args.self.now.lowest < 8 = omega arith in
    sym (pending_wanted (shown c.args.self.now) c.in_ok-first.first below (sym c.in_ok-first.ensures.value) (sym c.contains.ensures ∙ c.if-contains.false))
