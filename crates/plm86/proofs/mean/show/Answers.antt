use Rattle.std.proofs.Common.{Ok, None, refl, ap, subst, ◌∙◌}
use Rattle.std.proofs.KnownBytes.{Appends-nil}
use Rattle.plm86.specs.Inner.Meaning.{Came}
use Rattle.plm86.proofs.Going.{far_goes, far_breaks, far_ends}
use Rattle.plm86.proofs.mean.show.Goals as goal

pub returns-in-Err-clause-far : goal.returns-in-Err-clause-far
returns-in-Err-clause-far g c = λ m n choices names placement whole left old before came x.
    far_ends names placement whole left choices m old (g.S.Sink.taken c.args.sink.now) before (g.S.Sink.failures c.args.sink.now) x c.in-Err.ending
    ((subst (Came m n choices) c.in-Err.is came).each names placement x.run x.chips x.shows)

pub returns-in-Ok-None-clause-far : goal.returns-in-Ok-None-clause-far
returns-in-Ok-None-clause-far g c = λ m n choices names placement whole left old before came x.
    let a = g.S.Sink.taken c.args.sink.now in
    far_goes names placement whole left choices m old a before (g.S.Sink.failures c.args.sink.now) x n a (g.S.Sink.failures c.args.sink.now) None came.run
    ((subst (Came m n choices) (c.in-Ok-None.is ∙ ap Ok (rw c.in-Ok-None.is at c.in-Ok-None.field-0-is)) came).each names placement x.run x.chips x.shows) (Appends-nil a, refl)

pub returns-in-Ok-clause-far : goal.returns-in-Ok-clause-far
returns-in-Ok-clause-far g c = λ m n choices names placement whole left old before came x.
    far_goes names placement whole left choices m old (g.S.Sink.taken c.args.sink.now) before (g.S.Sink.failures c.args.sink.now) x n (g.S.Sink.taken c.put_line.new.sink) (g.S.Sink.failures c.put_line.new.sink) c.in-Ok-Some.step.label came.run
    ((subst (Came m n choices) (c.in-Ok-Some.is ∙ ap Ok (rw c.in-Ok-Some.is at c.in-Ok-Some.field-0-is)) came).each names placement x.run x.chips x.shows) c.in-Ok.ensures

pub returns-in-Err-put_line-clause-far : goal.returns-in-Err-put_line-clause-far
returns-in-Err-put_line-clause-far g c = λ m n choices names placement whole left old before came x.
    far_breaks names placement whole left choices m old (g.S.Sink.taken c.args.sink.now) before (g.S.Sink.failures c.args.sink.now) x n (g.S.Sink.taken c.put_line.new.sink) (g.S.Sink.failures c.put_line.new.sink) c.in-Ok-Some.step.label
    ((subst (Came m n choices) (c.in-Ok-Some.is ∙ ap Ok (rw c.in-Ok-Some.is at c.in-Ok-Some.field-0-is)) came).each names placement x.run x.chips x.shows) c.in-Err-put_line.ensures
