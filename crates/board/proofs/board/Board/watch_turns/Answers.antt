use Rattle.std.proofs.Common.{◌≤◌, Option, subst, arith}
use Rattle.board.specs.declared.watched.WatchedEnd.{WatchedEnd}
use Rattle.board.specs.Inner.Stretch.{IsWithin}
use Rattle.board.proofs.board.Board.watch_turns.Goals as goal

pub returns-in-Some-clause-within : goal.returns-in-Some-clause-within
returns-in-Some-clause-within g c =
    let within : c.in-Some.end.turns ≤ c.next_pause-pause.result = subst (λ (o : Option WatchedEnd). IsWithin c.next_pause-pause.result o) c.in-Some.is c.in_ok-end.ensures.within in
    omega (arith, within, c.next_pause-pause.ensures.within)
