use Rattle.std.proofs.Common.{ℕ, List, ◌++◌, Option, Some, slice_get, ◌∙◌, refl, ap, sym, subst}
use Rattle.plm_decl.specs.declared.names.Names.{Names}
use Rattle.plm_type.specs.Programs.{procedures_of, handler_number}
use Rattle.plm_type.specs.Calls.{graph_of}
use Rattle.plm_type.specs.Order.{IsOrder}
use Rattle.icode.specs.Heights.{HasHeights}
use Rattle.icode.specs.Made.{IsMade}
use Rattle.icode.specs.declared.code.Routine.TheVariants as routine
use Rattle.lower.proofs.Numbers.{numbers_fit}
use Rattle.lower.proofs.Procedures.{names_lowered, main_lowered, procedure_codes, procedure_vectors, procedures_ordered, program_lowered}
use Rattle.lower.proofs.Handlers.{handler_position}
use Rattle.lower.proofs.lowering.lower.Goals as goal

pub all-requires : goal.all-requires
all-requires c = numbers_fit c.names-names.result.now c.names-names.ensures.typed.no_fault

pub invariant_of-result-clause-main_has_heights : goal.invariant_of-result-clause-main_has_heights
invariant_of-result-clause-main_has_heights c =
    let program = c.args.program.now in
    let names = c.names-names.result.now in
    let typed = c.names-names.ensures.typed in
    let sound = c.checked_code_is_sound.ensures names (c.checked_trees_are_well_formed.ensures program names typed) in
    let is = main_lowered program names typed c.procedures-procedures.result.now c.procedures-procedures.ensures c.main.result.now c.main.ensures c.in_ok-main.main.items c.in_ok-main.ensures.code in
    subst HasHeights (sym is) (sound.has_heights routine.Main)

pub invariant_of-result-clause-has_heights : goal.invariant_of-result-clause-has_heights
invariant_of-result-clause-has_heights c p =
    let program = c.args.program.now in
    let names = c.names-names.result.now in
    let typed = c.names-names.ensures.typed in
    let sound = c.checked_code_is_sound.ensures names (c.checked_trees_are_well_formed.ensures program names typed) in
    let qs = c.in_ok-procedures.procedures.items in
    let are = names_lowered program names typed c.procedures-procedures.result.now c.procedures-procedures.ensures qs c.in_ok-procedures.ensures.code in
    subst HasHeights (sym (procedure_codes names qs are p)) (sound.has_heights (routine.Procedure p))

pub invariant_of-result-clause-main_made : goal.invariant_of-result-clause-main_made
invariant_of-result-clause-main_made c =
    let program = c.args.program.now in
    let names = c.names-names.result.now in
    let typed = c.names-names.ensures.typed in
    let sound = c.checked_code_is_sound.ensures names (c.checked_trees_are_well_formed.ensures program names typed) in
    let is = main_lowered program names typed c.procedures-procedures.result.now c.procedures-procedures.ensures c.main.result.now c.main.ensures c.in_ok-main.main.items c.in_ok-main.ensures.code in
    subst IsMade (sym is) (sound.made routine.Main)

pub invariant_of-result-clause-made : goal.invariant_of-result-clause-made
invariant_of-result-clause-made c p =
    let program = c.args.program.now in
    let names = c.names-names.result.now in
    let typed = c.names-names.ensures.typed in
    let sound = c.checked_code_is_sound.ensures names (c.checked_trees_are_well_formed.ensures program names typed) in
    let qs = c.in_ok-procedures.procedures.items in
    let are = names_lowered program names typed c.procedures-procedures.result.now c.procedures-procedures.ensures qs c.in_ok-procedures.ensures.code in
    subst IsMade (sym (procedure_codes names qs are p)) (sound.made (routine.Procedure p))

pub invariant_of-result-clause-ordered : goal.invariant_of-result-clause-ordered
invariant_of-result-clause-ordered c =
    let program = c.args.program.now in
    let names = c.names-names.result.now in
    let typed = c.names-names.ensures.typed in
    let sound = c.checked_code_is_sound.ensures names (c.checked_trees_are_well_formed.ensures program names typed) in
    let qs = c.in_ok-procedures.procedures.items in
    let are = names_lowered program names typed c.procedures-procedures.result.now c.procedures-procedures.ensures qs c.in_ok-procedures.ensures.code in
    let order = c.in_ok-extend_from_slice.ensures.items ∙ ap (λ os. os ++ c.order.result.now) c.new-order.ensures.items ∙ c.order.ensures in
    procedures_ordered names qs are c.extend_from_slice.new.self.items (subst (λ os. IsOrder os (graph_of (procedures_of names))) (sym order) typed.order) sound

pub invariant_of-result-clause-handlers_are : goal.invariant_of-result-clause-handlers_are
invariant_of-result-clause-handlers_are c v h =
    let program = c.args.program.now in
    let names = c.names-names.result.now in
    let typed = c.names-names.ensures.typed in
    let qs = c.in_ok-procedures.procedures.items in
    let are = names_lowered program names typed c.procedures-procedures.result.now c.procedures-procedures.ensures qs c.in_ok-procedures.ensures.code in
    let copied = c.in_ok-extend_from_slice-2.ensures.items ∙ ap (λ hs. hs ++ c.handler_numbers.result.now) c.new-handlers.ensures.items in
    ap (λ (hs : List (Option ℕ)). slice_get hs v) copied
    ∙ c.handler_numbers.ensures v h
    ∙ ap (λ (ns : Names). Some (handler_number ns v)) (sym c.names-names.ensures.names)
    ∙ ap Some (sym (handler_position names qs (procedure_vectors names qs are) v))

pub returns-clause-lowered : goal.returns-clause-lowered
returns-clause-lowered c =
    let program = c.args.program.now in
    let names = c.names-names.result.now in
    let typed = c.names-names.ensures.typed in
    let qs = c.in_ok-procedures.procedures.items in
    let are = names_lowered program names typed c.procedures-procedures.result.now c.procedures-procedures.ensures qs c.in_ok-procedures.ensures.code in
    let is = main_lowered program names typed c.procedures-procedures.result.now c.procedures-procedures.ensures c.main.result.now c.main.ensures c.in_ok-main.main.items c.in_ok-main.ensures.code in
    program_lowered names qs are _ _ c.names-names.ensures.names refl is refl c.in_ok-sections.ensures.sections
