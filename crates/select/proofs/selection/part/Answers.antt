use Rattle.std.proofs.Common.{◌≡◌, ap₂, sym, subst, ◌∙◌, List}
use Rattle.std.specs.Prelude.{slice_index}
use Rattle.icode.specs.Code.{code_of}
use Rattle.icode.specs.Made.{IsMade}
use Rattle.select.specs.declared.part.Step.{Step}
use Rattle.select.specs.Parts.{IsPart}
use Rattle.select.specs.Rows.{routine}
use Rattle.select.specs.Selection.{part_of}
use Rattle.select.specs.Inner.Selecting.{saves_in}
use Rattle.select.proofs.Selecting.{made, same_routine}
use Rattle.select.proofs.selection.part.Goals as goal

pub routine_steps-requires : goal.routine_steps-requires
routine_steps-requires c = subst IsMade (sym c.instructions.ensures) (made c.args.code.now c.args.routine)

pub returns-clause-part : goal.returns-clause-part
returns-clause-part c =
    let code = c.args.code.now in
    let saves = saves_in code c.args.changed.now c.args.routine in
    let steps_are : c.in_ok-steps.steps.items ≡ routine (part_of code) saves (code_of code c.args.routine) =
    c.in_ok-steps.ensures.steps ∙ ap₂ (λ s l. routine (slice_index c.args.numbers.now) s l) c.saves_of-saves.ensures c.instructions.ensures
    ∙ same_routine (slice_index c.args.numbers.now) (part_of code) saves (code_of code c.args.routine) c.requires in
    record {
      entry_is = c.in_ok-part.ensures.entry ∙ c.entry_of.ensures;
      is_part = subst (λ (l : List Step). IsPart c.args.own l c.in_ok-part.part.bytes.items c.in_ok-part.part.fixups.items) (c.deref.ensures.value ∙ steps_are) c.in_ok-part.ensures.part;
    }
