use Rattle.std.proofs.Common.{◌∙◌, Option, Result, Ok, refl, ap, subst, arith}
use Rattle.std.proofs.KnownBytes.{Appends-nil}
use Rattle.word86.specs.declared.fault.Fault.{Fault}
use Rattle.board.specs.declared.run.End.{End}
use Rattle.board.specs.Parts.{RanPart}
use Rattle.board.specs.Run.{due_of}
use Rattle.plm86.proofs.progress.run_in_parts.Goals as goal

pub loop-turn-init : goal.loop-turn-init
loop-turn-init g c = record {
  within = omega arith;
  far = λ b h. record { goes_on = λ k lt. absurd (omega (arith, lt)); board = h; taken = Appends-nil (g.S.Sink.taken c.args.sink.now); same = refl };
}

pub loop-turn-preserved : goal.loop-turn-preserved
loop-turn-preserved g c = record {
  within = omega (arith, c.end_of_part-next.ensures.within, c.stop-in-loop-turn.ensures);
  far = λ b h.
      let due = due_of c.args.schedule.now in
      let stop = c.args.schedule.now.stop in
      subst
      (λ (r : Result (Option End) Fault). RanPart due stop b c.end_of_part-next.result c.run_part.new.self (g.S.Sink.taken c.args.sink.now) (g.S.Sink.taken c.run_part.new.sink) (g.S.Sink.failures c.args.sink.now) (g.S.Sink.failures c.run_part.new.sink) r)
      (c.in-Ok-None.is ∙ ap (λ (o : Option End). Ok o) c.in-Ok-None.field-0-is) (c.run_part.ensures.part b _ _ (c.loop-turn.invariant.far b h));
}

pub returns-in-Ok-Some-clause-run : goal.returns-in-Ok-Some-clause-run
returns-in-Ok-Some-clause-run g c = λ b h.
    let due = due_of c.args.schedule.now in
    let stop = c.args.schedule.now.stop in
    subst
    (λ (r : Result (Option End) Fault). RanPart due stop b c.end_of_part-next.result c.run_part.new.self (g.S.Sink.taken c.args.sink.now) (g.S.Sink.taken c.run_part.new.sink) (g.S.Sink.failures c.args.sink.now) (g.S.Sink.failures c.run_part.new.sink) r)
    (c.in-Ok-Some.is ∙ ap (λ (o : Option End). Ok o) c.in-Ok-Some.field-0-is) (c.run_part.ensures.part b _ _ (c.loop-turn.invariant.far b h))
