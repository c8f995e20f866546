use Rattle.std.proofs.Common.{◌≡◌, slice_index, length, sym, rules, arith}
use Rattle.std.proofs.lemmas.List.{get_or_read_under}
use Rattle.board.proofs.Cuts.{due_none, gap, no_gap}
use Rattle.board.proofs.timetable.Timetable.turn_behind.Goals as goal

pub returns-then-before-len-clause-quiet : goal.returns-then-before-len-clause-quiet
returns-then-before-len-clause-quiet c = λ t lt until.
    let ns = c.args.self.now.turns.items in
    let size : c.len.result ≡ length ns = search rules in
    let there : slice_index ns c.args.before ≡ c.index.result.now = sym (get_or_read_under ns c.args.before c.len.result c.index.result.now 0 c.index.ensures c.if-before-len.true size) in
    due_none t ns c.args.self.now.events.items
    (λ i len. gap ns c.args.before c.args.turn t i c.args.self.now.sorted (λ j below within. let x = c.requires.1 j below in omega (arith, x)) lt (omega (arith, until, there)) len)
    c.args.self.now.paired

pub returns-else-before-len-clause-quiet : goal.returns-else-before-len-clause-quiet
returns-else-before-len-clause-quiet c = λ t lt until.
    let ns = c.args.self.now.turns.items in
    due_none t ns c.args.self.now.events.items
    (λ i len. no_gap ns c.args.before c.args.turn t i (λ j below within. let x = c.requires.1 j below in omega (arith, x)) lt (omega (arith, c.if-before-len.false, c.len.ensures)) len)
    c.args.self.now.paired
