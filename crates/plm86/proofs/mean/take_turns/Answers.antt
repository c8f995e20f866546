use Rattle.std.proofs.Common.{◌++◌, ◌-◌, sym, subst, arith, rules}
use Rattle.std.specs.Prelude.{replicate}
use Rattle.board.specs.Run.{due_of}
use Rattle.plm86.specs.Mean.{one_step, choices_from}
use Rattle.plm86.specs.Inner.Meaning.{event_choices, Far, Ended}
use Rattle.plm86.proofs.Going.{far_stretch, far_last, far_first}
use Rattle.plm86.proofs.mean.take_turns.Goals as goal

pub loop-turn-init : goal.loop-turn-init
loop-turn-init g c = (
  omega arith,
  λ names placement whole old before x.
      far_first names placement whole c.args.meaning.now old (g.S.Sink.taken c.args.sink.now) before (g.S.Sink.failures c.args.sink.now) (due_of c.args.schedule.now) c.args.schedule.now.stop x,
)

pub returns-in_err-take_events : goal.returns-in_err-take_events
returns-in_err-take_events g c = λ names placement whole old before x.
    let due = due_of c.args.schedule.now in
    let stop = c.args.schedule.now.stop in
    let turn = c.loop-turn.turn in
    let pause = c.next_pause-pause.result in
    let steps = replicate (pause - turn) one_step ++ choices_from due (stop - pause) pause in
    let a = g.S.Sink.taken c.loop-turn.sink in
    let f = g.S.Sink.failures c.loop-turn.sink in
    let far = far_stretch names placement whole c.loop-turn.meaning old a before f due stop turn pause c.next_pause-pause.ensures.later c.next_pause-pause.ensures.within c.next_pause-pause.ensures.quiet (c.loop-turn.invariant.1 names placement whole old before x) in
    let said : Ended whole old (g.S.Sink.taken c.take_events.new.sink) before (g.S.Sink.failures c.take_events.new.sink) c.in_err-take_events.field-0.0 =
    c.in_err-take_events.ensures names placement whole steps old before (subst (λ es. Far names placement whole (event_choices es ++ steps) c.loop-turn.meaning old a before f) (sym c.due.ensures) far) in
    search rules

pub returns-in_err-take_steps : goal.returns-in_err-take_steps
returns-in_err-take_steps g c = λ names placement whole old before x.
    let due = due_of c.args.schedule.now in
    let stop = c.args.schedule.now.stop in
    let turn = c.loop-turn.turn in
    let pause = c.next_pause-pause.result in
    let left = choices_from due (stop - pause) pause in
    let steps = replicate (pause - turn) one_step ++ left in
    let a = g.S.Sink.taken c.loop-turn.sink in
    let f = g.S.Sink.failures c.loop-turn.sink in
    let far = far_stretch names placement whole c.loop-turn.meaning old a before f due stop turn pause c.next_pause-pause.ensures.later c.next_pause-pause.ensures.within c.next_pause-pause.ensures.quiet (c.loop-turn.invariant.1 names placement whole old before x) in
    let said : Ended whole old (g.S.Sink.taken c.take_steps.new.sink) before (g.S.Sink.failures c.take_steps.new.sink) c.in_err-take_steps.field-0.0 =
    c.in_err-take_steps.ensures names placement whole left old before
    (c.in_ok-take_events.ensures names placement whole steps old before (subst (λ es. Far names placement whole (event_choices es ++ steps) c.loop-turn.meaning old a before f) (sym c.due.ensures) far)) in
    search rules

pub loop-turn-preserved : goal.loop-turn-preserved
loop-turn-preserved g c =
    let due = due_of c.args.schedule.now in
    let stop = c.args.schedule.now.stop in
    let turn = c.loop-turn.turn in
    let pause = c.next_pause-pause.result in
    let left = choices_from due (stop - pause) pause in
    let steps = replicate (pause - turn) one_step ++ left in
    let a = g.S.Sink.taken c.loop-turn.sink in
    let f = g.S.Sink.failures c.loop-turn.sink in (
      c.next_pause-pause.ensures.within,
      λ names placement whole old before x.
          let far = far_stretch names placement whole c.loop-turn.meaning old a before f due stop turn pause c.next_pause-pause.ensures.later c.next_pause-pause.ensures.within c.next_pause-pause.ensures.quiet (c.loop-turn.invariant.1 names placement whole old before x) in
          c.in_ok-take_steps.ensures names placement whole left old before
          (c.in_ok-take_events.ensures names placement whole steps old before (subst (λ es. Far names placement whole (event_choices es ++ steps) c.loop-turn.meaning old a before f) (sym c.due.ensures) far)),
    )

pub returns : goal.returns
returns g c = λ names placement whole old before x.
    far_last names placement whole c.loop-turn.meaning old (g.S.Sink.taken c.loop-turn.sink) before (g.S.Sink.failures c.loop-turn.sink) (due_of c.args.schedule.now) c.args.schedule.now.stop c.loop-turn.turn (omega (arith, c.loop-turn-test.false, c.stop.ensures))
    (c.loop-turn.invariant.1 names placement whole old before x)
