use Rattle.std.proofs.Common.{◌++◌, ◌+◌, ◌-◌, ◌<◌, Ok, ap, arith, rules}
use Rattle.std.specs.Prelude.{replicate}
use Rattle.plm86.specs.Mean.{one_step}
use Rattle.plm86.specs.Inner.Meaning.{a_step, Ended}
use Rattle.plm86.proofs.Going.{far_step, far_idle, far_last_step, far_first_step}
use Rattle.plm86.proofs.mean.take_steps.Goals as goal

pub loop-turn-init : goal.loop-turn-init
loop-turn-init g c = λ names placement whole left old before x.
    far_first_step names placement whole c.args.meaning.now old (g.S.Sink.taken c.args.sink.now) before (g.S.Sink.failures c.args.sink.now) c.args.count left x

pub returns-in_err-came : goal.returns-in_err-came
returns-in_err-came g c = λ names placement whole left old before x.
    let turn = c.loop-turn._turn in
    let lt : turn < c.args.count = omega (arith, c.loop-turn-test.true) in
    let far = far_step names placement whole c.loop-turn.meaning old (g.S.Sink.taken c.loop-turn.sink) before (g.S.Sink.failures c.loop-turn.sink) c.args.count turn left lt (c.loop-turn.invariant names placement whole left old before x) in
    let said : Ended whole old (g.S.Sink.taken c.show.new.sink) before (g.S.Sink.failures c.show.new.sink) c.in_err-came.field-0.0 =
    c.in_err-came.ensures.far c.loop-turn.meaning c.take_step.new.meaning a_step names placement whole (replicate (c.args.count - (turn + 1)) one_step ++ left) old before c.take_step.ensures.came far in
    search rules

pub returns-then-not-came : goal.returns-then-not-came
returns-then-not-came g c = λ names placement whole left old before x.
    c.in_ok-came.ensures.far c.loop-turn.meaning c.take_step.new.meaning a_step names placement whole left old before c.take_step.ensures.came
    (far_idle names placement whole c.loop-turn.meaning old (g.S.Sink.taken c.loop-turn.sink) before (g.S.Sink.failures c.loop-turn.sink) (c.args.count - c.loop-turn._turn) left (c.take_step.ensures.none (c.in_ok-came.ensures.none (ap Ok c.if-not-came.true)))
    (c.loop-turn.invariant names placement whole left old before x))

pub loop-turn-preserved : goal.loop-turn-preserved
loop-turn-preserved g c = λ names placement whole left old before x.
    let turn = c.loop-turn._turn in
    let lt : turn < c.args.count = omega (arith, c.loop-turn-test.true) in
    let far = far_step names placement whole c.loop-turn.meaning old (g.S.Sink.taken c.loop-turn.sink) before (g.S.Sink.failures c.loop-turn.sink) c.args.count turn left lt (c.loop-turn.invariant names placement whole left old before x) in
    c.in_ok-came.ensures.far c.loop-turn.meaning c.take_step.new.meaning a_step names placement whole (replicate (c.args.count - (turn + 1)) one_step ++ left) old before c.take_step.ensures.came far

pub returns : goal.returns
returns g c = λ names placement whole left old before x.
    far_last_step names placement whole c.loop-turn.meaning old (g.S.Sink.taken c.loop-turn.sink) before (g.S.Sink.failures c.loop-turn.sink) c.args.count c.loop-turn._turn left (omega (arith, c.loop-turn-test.false))
    (c.loop-turn.invariant names placement whole left old before x)
