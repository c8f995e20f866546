use Rattle.std.proofs.Common.{◌≡◌, ◌+◌, ◌-◌, [], arith}
use Rattle.board.specs.declared.run.Step.TheVariants.{Next}
use Rattle.board.proofs.Stretches.{lasted_made, lasted_early, lasted_idle}
use Rattle.board.proofs.Counted.{counted_went, counted_idle, counted_early}
use Rattle.board.proofs.board.Board.number_quietly.Goals as goal

pub loop-turn-preserved : goal.loop-turn-preserved
loop-turn-preserved g c =
    let turn = c.loop-turn.turn in
    let made = c.stretch-made.result.turns in
    record {
      after = omega (arith, c.loop-turn.invariant.after);
      within = c.stretch-made.ensures.within;
      empty = c.put_lines.ensures.empty;
      far = λ due quiet b first failed f.
          let w = c.stretch-made.ensures.made due (λ t ge lt. quiet t (omega (arith, ge, c.loop-turn.invariant.after)) lt) b (c.loop-turn.invariant.far due quiet b first failed f).board in
          counted_went due b c.args.to turn (turn + made) (turn + made - 1) c.loop-turn.self c.stretch-made.new.self _ _ _ _ _ _ Next c.stretch-made.new.labels.items c.stretch-made.result.kind [] w.0
          (quiet w.0.last (omega (arith, w.0.order, c.loop-turn.invariant.after)) (omega (arith, w.0.next, c.stretch-made.ensures.within))) (omega (arith, w.0.next)) c.stretch-made.ensures.within (c.loop-turn.invariant.far due quiet b first failed f) c.in-Next.ensures.text c.in-Next.ensures.end;
      lived = λ due quiet b s.
          let w = c.stretch-made.ensures.made due (λ t ge lt. quiet t (omega (arith, ge, c.loop-turn.invariant.after)) lt) b (c.loop-turn.invariant.lived due quiet b s).1.board in
          lasted_made due b c.args.to turn (turn + made) c.loop-turn.self c.stretch-made.new.self Next c.stretch-made.new.labels.items c.stretch-made.result.kind w c.stretch-made.ensures.within c.in-Next.ensures.end (c.loop-turn.invariant.lived due quiet b s);
    }

pub returns-in_default : goal.returns-in_default
returns-in_default g c =
    let turn = c.loop-turn.turn in
    let made = c.stretch-made.result.turns in
    record {
      empty = c.put_lines.ensures.empty;
      counted = λ due quiet stop le b first failed f.
          let w = c.stretch-made.ensures.made due (λ t ge lt. quiet t (omega (arith, ge, c.loop-turn.invariant.after)) lt) b (c.loop-turn.invariant.far due quiet b first failed f).board in
          counted_early due b stop (turn + made) c.args.to _ _ _ _ _ c.put_lines.result c.in_default.not-Next
          (counted_went due b stop turn (turn + made) (turn + made - 1) c.loop-turn.self c.stretch-made.new.self _ _ _ _ _ _ c.put_lines.result c.stretch-made.new.labels.items c.stretch-made.result.kind [] w.0
          (quiet w.0.last (omega (arith, w.0.order, c.loop-turn.invariant.after)) (omega (arith, w.0.next, c.stretch-made.ensures.within))) (omega (arith, w.0.next)) (omega (arith, c.stretch-made.ensures.within, le)) (c.loop-turn.invariant.far due quiet b first failed f) c.put_lines.ensures.text c.put_lines.ensures.end);
      lasted = λ due quiet stop le b s.
          let w = c.stretch-made.ensures.made due (λ t ge lt. quiet t (omega (arith, ge, c.loop-turn.invariant.after)) lt) b (c.loop-turn.invariant.lived due quiet b s).1.board in
          lasted_early due b stop (turn + made) c.args.to _ c.put_lines.result c.in_default.not-Next (lasted_made due b stop turn (turn + made) c.loop-turn.self c.stretch-made.new.self c.put_lines.result c.stretch-made.new.labels.items c.stretch-made.result.kind w (omega (arith, c.stretch-made.ensures.within, le)) c.put_lines.ensures.end (c.loop-turn.invariant.lived due quiet b s));
    }

pub returns-in-Wait : goal.returns-in-Wait
returns-in-Wait g c =
    let turn = c.loop-turn.turn in
    let made = c.stretch-made.result.turns in
    record {
      empty = c.put_lines.ensures.empty;
      counted = λ due quiet stop le b first failed f.
          let w = c.stretch-made.ensures.made due (λ t ge lt. quiet t (omega (arith, ge, c.loop-turn.invariant.after)) lt) b (c.loop-turn.invariant.far due quiet b first failed f).board in
          counted_idle due b turn (turn + made) c.args.to c.stretch-made.new.self c.stretch-made.new.labels.items c.stretch-made.result.kind _ _ _ _ w.0 c.in-Wait.is c.stretch-made.ensures.within
          (λ t ge lt. quiet t (omega (arith, ge, c.loop-turn.invariant.after)) lt)
          (counted_went due b c.args.to turn (turn + made) (turn + made - 1) c.loop-turn.self c.stretch-made.new.self _ _ _ _ _ _ Next c.stretch-made.new.labels.items c.stretch-made.result.kind [] w.0
          (quiet w.0.last (omega (arith, w.0.order, c.loop-turn.invariant.after)) (omega (arith, w.0.next, c.stretch-made.ensures.within))) (omega (arith, w.0.next)) c.stretch-made.ensures.within (c.loop-turn.invariant.far due quiet b first failed f) c.in-Next.ensures.text c.in-Next.ensures.end);
      lasted = λ due quiet stop le b s.
          let w = c.stretch-made.ensures.made due (λ t ge lt. quiet t (omega (arith, ge, c.loop-turn.invariant.after)) lt) b (c.loop-turn.invariant.lived due quiet b s).1.board in
          lasted_idle due b turn (turn + made) c.args.to c.stretch-made.new.self c.stretch-made.new.labels.items c.stretch-made.result.kind w.0 c.in-Wait.is c.stretch-made.ensures.within
          (λ t ge lt. quiet t (omega (arith, ge, c.loop-turn.invariant.after)) lt)
          (lasted_made due b c.args.to turn (turn + made) c.loop-turn.self c.stretch-made.new.self Next c.stretch-made.new.labels.items c.stretch-made.result.kind w c.stretch-made.ensures.within c.in-Next.ensures.end (c.loop-turn.invariant.lived due quiet b s));
    }

pub returns : goal.returns
returns g c =
    let end : c.loop-turn.turn ≡ c.args.to = omega (arith, c.loop-turn-test.false, c.loop-turn.invariant.within) in
    record {
      empty = c.loop-turn.invariant.empty;
      counted = λ due quiet stop le b first failed f. rw end at (c.loop-turn.invariant.far due quiet b first failed f);
      lasted = λ due quiet stop le b s. rw end at (c.loop-turn.invariant.lived due quiet b s);
    }
