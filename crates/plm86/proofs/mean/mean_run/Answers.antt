use Rattle.std.proofs.Common.{◌≡◌, sym, subst, refl, rules}
use Rattle.word86.specs.Sink.{Appends, Cut, Rises}
use Rattle.listing_map.specs.Lines.{end_line}
use Rattle.board.specs.Run.{due_of}
use Rattle.plm86.specs.Mean.{meant, run_text, IsCutShort}
use Rattle.plm86.specs.Inner.Meaning.{Ended}
use Rattle.plm86.proofs.Going.{far_starts, far_closes, far_breaks_last, bad_closes, cut_of_run, nothing_taken}
use Rattle.plm86.proofs.mean.mean_run.Goals as goal

pub returns-in_err-meaning-clause-refused : goal.returns-in_err-meaning-clause-refused
returns-in_err-meaning-clause-refused g c =
    let schedule = c.args.schedule.now in
    let text = run_text schedule.stop (meant c.args.program.now.names c.args.placement.now c.args.power_on (due_of schedule) schedule.stop) in
    let a = g.S.Sink.taken c.args.sink.now in
    let f = g.S.Sink.failures c.args.sink.now in
    let said : IsCutShort c.in_err-meaning.field-0.0 a a f f text =
    subst (λ e. IsCutShort e a a f f text) (sym c.in_err-meaning.ensures.refused) (nothing_taken text a, refl) in
    search rules

pub returns-in-Ok-put_end_line-clause-ran : goal.returns-in-Ok-put_end_line-clause-ran
returns-in-Ok-put_end_line-clause-ran g c =
    let names = c.args.program.now.names in
    let placement = c.args.placement.now in
    let due = due_of c.args.schedule.now in
    let stop = c.args.schedule.now.stop in
    let whole = meant names placement c.args.power_on due stop in
    let old = g.S.Sink.taken c.args.sink.now in
    let before = g.S.Sink.failures c.args.sink.now in
    let a = g.S.Sink.taken c.take_turns.new.sink in
    let f = g.S.Sink.failures c.take_turns.new.sink in
    let b = g.S.Sink.taken c.put_end_line.new.sink in
    let e = g.S.Sink.failures c.put_end_line.new.sink in
    let far = c.in-Ok.ensures names placement whole old before (far_starts names placement c.args.power_on due stop c.in_ok-meaning.meaning c.in_ok-meaning.ensures.opens old before) in
    far_closes names placement whole c.take_turns.new.meaning old a before f far stop b e (subst (λ n. Appends a b (end_line n) × (e ≡ f)) c.stop.ensures c.in-Ok-put_end_line.ensures)

pub returns-in-Ok-clause-refused : goal.returns-in-Ok-clause-refused
returns-in-Ok-clause-refused g c =
    let names = c.args.program.now.names in
    let placement = c.args.placement.now in
    let due = due_of c.args.schedule.now in
    let stop = c.args.schedule.now.stop in
    let whole = meant names placement c.args.power_on due stop in
    let old = g.S.Sink.taken c.args.sink.now in
    let before = g.S.Sink.failures c.args.sink.now in
    let a = g.S.Sink.taken c.take_turns.new.sink in
    let f = g.S.Sink.failures c.take_turns.new.sink in
    let b = g.S.Sink.taken c.put_end_line.new.sink in
    let e = g.S.Sink.failures c.put_end_line.new.sink in
    let far = c.in-Ok.ensures names placement whole old before (far_starts names placement c.args.power_on due stop c.in_ok-meaning.meaning c.in_ok-meaning.ensures.opens old before) in
    let cut = far_breaks_last names placement whole c.take_turns.new.meaning old a before f far stop b e (subst (λ n. Cut a b (end_line n) × Rises f e) c.stop.ensures c.in-Err.ensures) in
    (refl, refl, refl, cut.0, cut.1)

pub returns-in-Err-Bad-clause-ran : goal.returns-in-Err-Bad-clause-ran
returns-in-Err-Bad-clause-ran g c =
    let names = c.args.program.now.names in
    let placement = c.args.placement.now in
    let due = due_of c.args.schedule.now in
    let stop = c.args.schedule.now.stop in
    let whole = meant names placement c.args.power_on due stop in
    let old = g.S.Sink.taken c.args.sink.now in
    let before = g.S.Sink.failures c.args.sink.now in
    let a = g.S.Sink.taken c.take_turns.new.sink in
    let f = g.S.Sink.failures c.take_turns.new.sink in
    let start = far_starts names placement c.args.power_on due stop c.in_ok-meaning.meaning c.in_ok-meaning.ensures.opens old before in
    bad_closes stop whole old a before f c.in-Err-Bad.at (subst (Ended whole old a before f) c.in-Err-Bad.field-0-is (c.in-Err-Bad.ensures names placement whole old before start))

pub returns-in-Err-Memory-clause-refused : goal.returns-in-Err-Memory-clause-refused
returns-in-Err-Memory-clause-refused g c =
    let names = c.args.program.now.names in
    let placement = c.args.placement.now in
    let due = due_of c.args.schedule.now in
    let stop = c.args.schedule.now.stop in
    let whole = meant names placement c.args.power_on due stop in
    let old = g.S.Sink.taken c.args.sink.now in
    let before = g.S.Sink.failures c.args.sink.now in
    let a = g.S.Sink.taken c.take_turns.new.sink in
    let f = g.S.Sink.failures c.take_turns.new.sink in
    let start = far_starts names placement c.args.power_on due stop c.in_ok-meaning.meaning c.in_ok-meaning.ensures.opens old before in
    let ended = subst (Ended whole old a before f) c.in-Err-Memory.field-0-is (c.in-Err-Memory.ensures names placement whole old before start) in
    (cut_of_run stop whole old a before f ended.0, ended.1)

pub returns-clause-refused : goal.returns-clause-refused
returns-clause-refused g c =
    let names = c.args.program.now.names in
    let placement = c.args.placement.now in
    let due = due_of c.args.schedule.now in
    let stop = c.args.schedule.now.stop in
    let whole = meant names placement c.args.power_on due stop in
    let old = g.S.Sink.taken c.args.sink.now in
    let before = g.S.Sink.failures c.args.sink.now in
    let a = g.S.Sink.taken c.take_turns.new.sink in
    let f = g.S.Sink.failures c.take_turns.new.sink in
    let start = far_starts names placement c.args.power_on due stop c.in_ok-meaning.meaning c.in_ok-meaning.ensures.opens old before in
    let ended = subst (Ended whole old a before f) c.in-Err-Broken.field-0-is (c.in-Err-Broken.ensures names placement whole old before start) in
    (refl, refl, refl, cut_of_run stop whole old a before f ended.0, ended.1)
