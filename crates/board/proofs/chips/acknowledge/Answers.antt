use Rattle.std.proofs.Common.{◌≡◌, true, sym, ap, ◌∙◌}
use Rattle.ppi_kbd.specs.Chips.{int_line, vector, acknowledged}
use Rattle.board.specs.Inner.Settled.{chips_of, settled_vector, settled_acknowledge}
use Rattle.board.proofs.SettledChips.{settles, answers}
use Rattle.board.proofs.chips.acknowledge.Goals as goal

pub returns-then-int_line-clause-vector : goal.returns-then-int_line-clause-vector
returns-then-int_line-clause-vector c =
    let p = c.args.ports.now in
    let up : int_line (chips_of p) ≡ true = sym (answers p _ int_line c.int_line.ensures.int_line) ∙ c.if-int_line.true in
    answers p _ vector c.acknowledge.ensures.vector ∙ sym (ap (λ t. settled_vector t (chips_of p)) up)

pub returns-then-int_line-clause-after : goal.returns-then-int_line-clause-after
returns-then-int_line-clause-after c =
    let p = c.args.ports.now in
    let up : int_line (chips_of p) ≡ true = sym (answers p _ int_line c.int_line.ensures.int_line) ∙ c.if-int_line.true in
    settles p _ acknowledged c.acknowledge.ensures.state ∙ sym (ap (λ t. settled_acknowledge t (chips_of p)) up)
