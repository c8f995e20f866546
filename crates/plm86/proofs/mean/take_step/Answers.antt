use Rattle.std.proofs.Common.{[], ◌∷◌, sym, subst, ◌∙◌}
use Rattle.plm_meaning.specs.Meaning.{Stopped}
use Rattle.plm_meaning.specs.System.{Program, Enter, Leave}
use Rattle.plm86.specs.Inner.Meaning.{a_step}
use Rattle.plm86.proofs.Going.{enters, goes_past, came_same, came_first, came_to_bad, came_short, came_behind, idle_behind}
use Rattle.plm86.proofs.mean.take_step.Goals as goal

pub returns-then-is_interrupted-clause-came : goal.returns-then-is_interrupted-clause-came
returns-then-is_interrupted-clause-came c =
    came_same c.args.meaning.now c.take.new.meaning (Enter ∷ []) a_step c.take.result
    (λ names placement p shows. enters names placement c.args.meaning.now p (sym (c.is_interrupted.ensures.can p shows) ∙ c.if-is_interrupted.true)) c.take.ensures.came

pub returns-then-is_interrupted-clause-none : goal.returns-then-is_interrupted-clause-none
returns-then-is_interrupted-clause-none c is = λ names placement r p shows.
    enters names placement c.args.meaning.now p (sym (c.is_interrupted.ensures.can p shows) ∙ c.if-is_interrupted.true)
    ∙ c.take.ensures.none is names placement r p shows

pub returns-in-Ok-clause-came : goal.returns-in-Ok-clause-came
returns-in-Ok-clause-came c =
    came_same c.args.meaning.now c.step.new.self (Program ∷ Leave ∷ []) a_step _
    (λ names placement p shows. goes_past names placement c.args.meaning.now p (sym (c.is_interrupted.ensures.can p shows) ∙ c.if-is_interrupted.false))
    (came_first c.args.meaning.now c.step.new.self Program (Leave ∷ []) c.in-Ok.step c.in-Ok.ensures.made c.in-Ok.ensures.run)

pub returns-in-Err-NotAllowed-clause-came : goal.returns-in-Err-NotAllowed-clause-came
returns-in-Err-NotAllowed-clause-came c =
    came_same c.args.meaning.now c.take-in-Err-NotAllowed.new.meaning (Program ∷ Leave ∷ []) a_step c.take-in-Err-NotAllowed.result
    (λ names placement p shows. goes_past names placement c.args.meaning.now p (sym (c.is_interrupted.ensures.can p shows) ∙ c.if-is_interrupted.false))
    (came_behind c.args.meaning.now c.step.new.self c.take-in-Err-NotAllowed.new.meaning Program (Leave ∷ []) c.take-in-Err-NotAllowed.result
    (subst (Stopped c.args.meaning.now c.step.new.self Program) c.in-Err-NotAllowed.field-0-is c.in-Err-NotAllowed.ensures.stopped) c.in-Err-NotAllowed.ensures.run c.take-in-Err-NotAllowed.ensures.came)

pub returns-in-Err-NotAllowed-clause-none : goal.returns-in-Err-NotAllowed-clause-none
returns-in-Err-NotAllowed-clause-none c is = λ names placement r p shows.
    goes_past names placement c.args.meaning.now p (sym (c.is_interrupted.ensures.can p shows) ∙ c.if-is_interrupted.false)
    ∙ idle_behind names placement c.args.meaning.now c.step.new.self Program (Leave ∷ [])
    (subst (Stopped c.args.meaning.now c.step.new.self Program) c.in-Err-NotAllowed.field-0-is c.in-Err-NotAllowed.ensures.stopped) c.in-Err-NotAllowed.ensures.run
    (c.take-in-Err-NotAllowed.ensures.none is) r p shows

pub returns-in-Err-Bad-clause-came : goal.returns-in-Err-Bad-clause-came
returns-in-Err-Bad-clause-came c =
    came_same c.args.meaning.now c.step.new.self (Program ∷ Leave ∷ []) a_step _
    (λ names placement p shows. goes_past names placement c.args.meaning.now p (sym (c.is_interrupted.ensures.can p shows) ∙ c.if-is_interrupted.false))
    (came_to_bad c.args.meaning.now c.step.new.self Program (Leave ∷ []) c.in-Err-Bad.at
    (subst (Stopped c.args.meaning.now c.step.new.self Program) c.in-Err-Bad.field-0-is c.in-Err-Bad.ensures.stopped) c.in-Err-Bad.ensures.run)

pub returns-in-Err-Memory-clause-came : goal.returns-in-Err-Memory-clause-came
returns-in-Err-Memory-clause-came c = came_short c.args.meaning.now c.step.new.self a_step c.in-Err-Memory.ensures.run
