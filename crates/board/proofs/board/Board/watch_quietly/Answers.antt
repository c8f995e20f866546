use Rattle.std.proofs.Common.{◌≡◌, ◌+◌, sym, subst, arith}
use Rattle.board.specs.Watched.{Stands}
use Rattle.board.proofs.Stretches.{stands_made, stands_idle}
use Rattle.board.proofs.board.Board.watch_quietly.Goals as goal

pub returns-then-stands_at : goal.returns-then-stands_at
returns-then-stands_at g c = record {
  empty = c.loop-turn.invariant.empty;
  stands = λ due quiet b s. subst (λ n. Stands due b n c.loop-turn.self) (sym c.stopped.ensures) (c.loop-turn.invariant.stands due quiet b s);
  within = omega (arith, c.stopped.ensures, c.loop-turn.invariant.within);
  fault = tt;
}

pub loop-turn-preserved : goal.loop-turn-preserved
loop-turn-preserved g c = record {
  after = omega (arith, c.loop-turn.invariant.after);
  within = omega (arith, c.stretch-made.ensures.within, c.next_look-next.ensures.within);
  empty = c.clear.ensures;
  stands = λ due quiet b s.
      let here = c.loop-turn.invariant.stands due quiet b s in
      let w = c.stretch-made.ensures.made due (λ t ge lt. quiet t (omega (arith, ge, c.loop-turn.invariant.after)) (omega (arith, lt, c.next_look-next.ensures.within))) b here.board in
      stands_made due b c.loop-turn.turn (c.loop-turn.turn + c.stretch-made.result.turns) c.loop-turn.self c.stretch-made.new.self c.stretch-made.new.labels.items c.stretch-made.result.kind w here;
}

pub returns-in-Wait : goal.returns-in-Wait
returns-in-Wait g c = record {
  empty = c.clear.ensures;
  stands = λ due quiet b s.
      let turn = c.loop-turn.turn in
      let made = c.stretch-made.result.turns in
      let here = c.loop-turn.invariant.stands due quiet b s in
      let w = c.stretch-made.ensures.made due (λ t ge lt. quiet t (omega (arith, ge, c.loop-turn.invariant.after)) (omega (arith, lt, c.next_look-next.ensures.within))) b here.board in
      stands_idle due b turn (turn + made) c.args.to c.stretch-made.new.self c.stretch-made.new.labels.items c.stretch-made.result.kind w.0 c.in-Wait.is (omega (arith, c.stretch-made.ensures.within, c.next_look-next.ensures.within))
      (λ t ge lt. quiet t (omega (arith, ge, c.loop-turn.invariant.after)) lt)
      (stands_made due b turn (turn + made) c.loop-turn.self c.stretch-made.new.self c.stretch-made.new.labels.items c.stretch-made.result.kind w here);
  within = tt;
  fault = tt;
}

pub returns-in-Opcode : goal.returns-in-Opcode
returns-in-Opcode g c = record {
  empty = c.clear.ensures;
  stands = λ due quiet b s.
      let turn = c.loop-turn.turn in
      let made = c.stretch-made.result.turns in
      let here = c.loop-turn.invariant.stands due quiet b s in
      let w = c.stretch-made.ensures.made due (λ t ge lt. quiet t (omega (arith, ge, c.loop-turn.invariant.after)) (omega (arith, lt, c.next_look-next.ensures.within))) b here.board in
      subst (λ n. Stands due b n c.stretch-made.new.self) (sym c.met.ensures)
      (stands_made due b turn (turn + made) c.loop-turn.self c.stretch-made.new.self c.stretch-made.new.labels.items c.stretch-made.result.kind w here);
  within = omega (arith, c.met.ensures, c.stretch-made.ensures.within, c.next_look-next.ensures.within);
  fault = tt;
}

pub returns : goal.returns
returns g c = record {
  empty = c.loop-turn.invariant.empty;
  stands = λ due quiet b s.
      let end : c.loop-turn.turn ≡ c.args.to = omega (arith, c.loop-turn-test.false, c.loop-turn.invariant.within) in
      subst (λ n. Stands due b n c.loop-turn.self) end (c.loop-turn.invariant.stands due quiet b s);
  within = tt;
  fault = tt;
}
