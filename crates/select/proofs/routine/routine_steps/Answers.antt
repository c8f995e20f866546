use Rattle.std.proofs.Common.{◌+◌, ◌++◌, get_or, sym, subst, ap, ◌∙◌}
use Rattle.std.proofs.lemmas.List.{drop_all, drop_more}
use Rattle.std.specs.Prelude.{slice_index}
use Rattle.icode.specs.declared.instruction.Instruction.TheVariants.{Constant}
use Rattle.select.specs.Rows.{plain, saved, registers_of, row, rows}
use Rattle.select.specs.Inner.Assembly.{AreSteps}
use Rattle.select.specs.Inner.Numbering.{step_at}
use Rattle.select.proofs.Steps.{firsts_are, row_written, rows_written, routine_inside}
use Rattle.select.proofs.routine.routine_steps.Goals as goal

pub loop-k-preserved : goal.loop-k-preserved
loop-k-preserved c =
    let all = c.args.instructions.now in
    let k = c.loop-k.k in
    let f = step_at c.in_ok-firsts.firsts.items in
    let whole = plain (saved (registers_of c.args.saves)) ++ rows f (slice_index c.args.parts.now) c.args.saves 0 all in
    row_written f (slice_index c.args.parts.now) c.args.saves all k (get_or all k (Constant 0)) c.loop-k.steps.items c.row.new.steps.items whole (drop_more all k (Constant 0) c.loop-k-test.true)
    (c.in_ok-row.ensures.steps ∙ ap (λ l. c.loop-k.steps.items ++ row (step_at l) (slice_index c.args.parts.now) c.args.saves (k + 1) (get_or all k (Constant 0))) c.deref-in-loop-k.ensures.value) c.loop-k.invariant

pub returns-clause-steps : goal.returns-clause-steps
returns-clause-steps c =
    let all = c.args.instructions.now in
    rows_written c.in_ok-firsts.firsts.items (slice_index c.args.parts.now) c.args.saves all c.loop-k.k c.loop-k.steps.items (drop_all c.loop-k.k all c.loop-k-test.false)
    (firsts_are c.args.saves all c.in_ok-firsts.firsts.items c.in_ok-firsts.ensures.many c.in_ok-firsts.ensures.each) c.loop-k.invariant

pub returns-clause-inside : goal.returns-clause-inside
returns-clause-inside c = subst AreSteps (sym (returns-clause-steps c)) (routine_inside (slice_index c.args.parts.now) c.args.saves c.args.instructions.now c.requires)
