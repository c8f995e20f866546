use Rattle.std.proofs.Common.{◌≡◌, sym, arith}
use Rattle.board.specs.Run.{due_of}
use Rattle.board.proofs.Counted.{counted_none, counted_early}
use Rattle.board.proofs.Stretches.{lasted_early}
use Rattle.board.proofs.board.Board.number_turns.Goals as goal

pub loop-turn-init : goal.loop-turn-init
loop-turn-init g c = record {
  within = omega arith;
  empty = c.new-labels.ensures;
  far = λ b h. counted_none (due_of c.args.schedule.now) b _ _ _ h;
  lived = λ b s. s;
}

pub loop-turn-preserved : goal.loop-turn-preserved
loop-turn-preserved g c = record {
  within = c.next_pause-pause.ensures.within;
  empty = c.number_stretch.ensures.empty;
  far = λ b h. c.in-Next.ensures.counted (due_of c.args.schedule.now) (sym c.due.ensures) c.next_pause-pause.ensures.quiet c.args.schedule.now.stop c.next_pause-pause.ensures.within b _ _ (c.loop-turn.invariant.far b h);
  lived = λ b s. c.in-Next.ensures.lasted (due_of c.args.schedule.now) (sym c.due.ensures) c.next_pause-pause.ensures.quiet c.args.schedule.now.stop c.next_pause-pause.ensures.within b (c.loop-turn.invariant.lived b s);
}

pub returns-in_default : goal.returns-in_default
returns-in_default g c =
    let due = due_of c.args.schedule.now in
    let stop = c.args.schedule.now.stop in
    record {
      counted = λ b h. counted_early due b stop c.next_pause-pause.result stop _ _ _ _ _ c.number_stretch.result c.in_default.not-Next
          (c.number_stretch.ensures.counted due (sym c.due.ensures) c.next_pause-pause.ensures.quiet stop c.next_pause-pause.ensures.within b _ _ (c.loop-turn.invariant.far b h));
      lasted = λ b s. lasted_early due b stop c.next_pause-pause.result stop _ c.number_stretch.result c.in_default.not-Next
          (c.number_stretch.ensures.lasted due (sym c.due.ensures) c.next_pause-pause.ensures.quiet stop c.next_pause-pause.ensures.within b (c.loop-turn.invariant.lived b s));
    }

pub returns : goal.returns
returns g c =
    let end : c.loop-turn.turn ≡ c.args.schedule.now.stop = omega (arith, c.loop-turn-test.false, c.loop-turn.invariant.within, c.stop.ensures) in
    record {
      counted = λ b h. rw end at (c.loop-turn.invariant.far b h);
      lasted = λ b s. rw end at (c.loop-turn.invariant.lived b s);
    }
