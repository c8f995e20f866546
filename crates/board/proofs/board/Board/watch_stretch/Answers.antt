use Rattle.std.proofs.Common.{◌+◌, sym, subst, arith}
use Rattle.board.specs.Watched.{Stands}
use Rattle.board.proofs.Stretches.{stands_made}
use Rattle.board.proofs.board.Board.watch_stretch.Goals as goal

pub returns-then-stands_at-clause-stands : goal.returns-then-stands_at-clause-stands
returns-then-stands_at-clause-stands g c = λ due at quiet b s. subst (λ n. Stands due b n c.args.self.now) (sym c.stopped.ensures) s

pub returns-in-Opcode-clause-stands : goal.returns-in-Opcode-clause-stands
returns-in-Opcode-clause-stands g c = λ due at quiet b s.
    let turn = c.args.turn in
    let w = c.eventful_turn-kind.ensures.made due at b s.board in
    subst (λ n. Stands due b n c.eventful_turn-kind.new.self) (sym c.met.ensures)
    (stands_made due b turn (turn + 1) c.args.self.now c.eventful_turn-kind.new.self c.eventful_turn-kind.new.labels.items c.eventful_turn-kind.result w s)

pub returns-clause-stands : goal.returns-clause-stands
returns-clause-stands g c = λ due at quiet b s.
    let turn = c.args.turn in
    let w = c.eventful_turn-kind.ensures.made due at b s.board in
    c.watch_quietly.ensures.stands due (λ t ge lt. quiet t (omega (arith, ge)) lt) b
    (stands_made due b turn (turn + 1) c.args.self.now c.eventful_turn-kind.new.self c.eventful_turn-kind.new.labels.items c.eventful_turn-kind.result w s)
