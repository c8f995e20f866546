use Rattle.std.proofs.Common.{◌∙◌, ◌-◌, List, ap, sym, take, drop, arith}
use Rattle.word86.specs.declared.event.Event.{Event}
use Rattle.board.proofs.Cuts.{due_between}
use Rattle.board.proofs.timetable.Timetable.due_behind.Goals as goal

pub returns-clause-due : goal.returns-clause-due
returns-clause-due c =
    let ns = c.args.self.now.turns.items in
    let es = c.args.self.now.events.items in
    let next = rw c.deref.ensures.value at c.past-next.ensures.next in
    ap (λ (l : List Event). take (c.past-next.result - c.args.before) (drop c.args.before l)) c.deref-2.ensures.value
    ∙ sym (due_between c.args.turn ns es c.args.before c.past-next.result c.past-next.ensures.later c.args.self.now.paired
    (λ i lt len. c.requires.1 i lt) c.requires.2
    (λ i lt len. let x = next.1 i lt in omega (arith, x)) (λ i ge len. let x = next.2 i ge len in omega (arith, x)))
