use Rattle.std.proofs.Common.{◌+◌, sym, subst}
use Rattle.board.specs.Watched.{FirstDead}
use Rattle.board.proofs.Dying.{noted_wait}
use Rattle.board.proofs.board.Board.turn_of_death.Goals as goal

pub returns : goal.returns
returns c = λ due b s.
    subst (FirstDead due b (c.args.turns + 1)) (sym c.first_death.ensures)
    (noted_wait due b c.args.turns c.args.self.now.died c.is_dead.result (c.is_dead.ensures _ s.board) s.noted)
