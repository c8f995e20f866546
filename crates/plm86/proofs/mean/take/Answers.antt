use Rattle.std.proofs.Common.{subst}
use Rattle.plm_meaning.specs.Meaning.{choice_of, Stopped}
use Rattle.plm86.proofs.Going.{came_first, came_of_none, came_to_bad, came_short, idle_alone}
use Rattle.plm86.proofs.mean.take.Goals as goal

pub returns-in-Ok-clause-came : goal.returns-in-Ok-clause-came
returns-in-Ok-clause-came c = came_first c.args.meaning.now c.step.new.self (choice_of c.args.choice) _ c.in-Ok.step c.in-Ok.ensures.made c.in-Ok.ensures.run

pub returns-in-Err-NotAllowed-clause-came : goal.returns-in-Err-NotAllowed-clause-came
returns-in-Err-NotAllowed-clause-came c =
    came_of_none c.args.meaning.now c.step.new.self (choice_of c.args.choice)
    (subst (Stopped c.args.meaning.now c.step.new.self (choice_of c.args.choice)) c.in-Err-NotAllowed.field-0-is c.in-Err-NotAllowed.ensures.stopped) c.in-Err-NotAllowed.ensures.run

pub returns-in-Err-NotAllowed-clause-none : goal.returns-in-Err-NotAllowed-clause-none
returns-in-Err-NotAllowed-clause-none c is =
    idle_alone c.args.meaning.now c.step.new.self (choice_of c.args.choice)
    (subst (Stopped c.args.meaning.now c.step.new.self (choice_of c.args.choice)) c.in-Err-NotAllowed.field-0-is c.in-Err-NotAllowed.ensures.stopped) c.in-Err-NotAllowed.ensures.run

pub returns-in-Err-Bad-clause-came : goal.returns-in-Err-Bad-clause-came
returns-in-Err-Bad-clause-came c =
    came_to_bad c.args.meaning.now c.step.new.self (choice_of c.args.choice) _ c.in-Err-Bad.at
    (subst (Stopped c.args.meaning.now c.step.new.self (choice_of c.args.choice)) c.in-Err-Bad.field-0-is c.in-Err-Bad.ensures.stopped) c.in-Err-Bad.ensures.run

pub returns-in-Err-Memory-clause-came : goal.returns-in-Err-Memory-clause-came
returns-in-Err-Memory-clause-came c = came_short c.args.meaning.now c.step.new.self _ c.in-Err-Memory.ensures.run
