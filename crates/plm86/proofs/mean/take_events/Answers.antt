use Rattle.std.proofs.Common.{◌++◌, drop, ◌+◌, arith, rules, tests}
use Rattle.plm86.specs.Inner.Meaning.{event_choices, Ended}
use Rattle.plm86.proofs.Going.{far_event, far_events}
use Rattle.plm86.proofs.mean.take_events.Goals as goal

pub returns-in_err-_came : goal.returns-in_err-_came
returns-in_err-_came g c = λ names placement whole left old before x.
    let es = c.args.events.now in
    let k = c.loop-event.event-index in
    let far = far_event names placement whole c.loop-event.meaning old (g.S.Sink.taken c.loop-event.sink) before (g.S.Sink.failures c.loop-event.sink) es k _ left (search (arith, tests, c.loop-event-test.true))
    (c.loop-event.invariant names placement whole left old before x) in
    let said : Ended whole old (g.S.Sink.taken c.show.new.sink) before (g.S.Sink.failures c.show.new.sink) c.in_err-_came.field-0.0 =
    c.in_err-_came.ensures.far c.loop-event.meaning c.take.new.meaning _ names placement whole (event_choices (drop (k + 1) es) ++ left) old before c.take.ensures.came far in
    search rules

pub loop-event-preserved : goal.loop-event-preserved
loop-event-preserved g c = λ names placement whole left old before x.
    let es = c.args.events.now in
    let k = c.loop-event.event-index in
    let far = far_event names placement whole c.loop-event.meaning old (g.S.Sink.taken c.loop-event.sink) before (g.S.Sink.failures c.loop-event.sink) es k _ left (search (arith, tests, c.loop-event-test.true))
    (c.loop-event.invariant names placement whole left old before x) in
    c.in_ok-_came.ensures.far c.loop-event.meaning c.take.new.meaning _ names placement whole (event_choices (drop (k + 1) es) ++ left) old before c.take.ensures.came far

pub returns : goal.returns
returns g c = λ names placement whole left old before x.
    far_events names placement whole c.loop-event.meaning old (g.S.Sink.taken c.loop-event.sink) before (g.S.Sink.failures c.loop-event.sink) c.args.events.now c.loop-event.event-index left (search (arith, tests, c.loop-event-test.false))
    (c.loop-event.invariant names placement whole left old before x)
