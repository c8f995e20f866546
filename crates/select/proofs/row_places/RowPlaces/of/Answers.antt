use Rattle.std.proofs.Common.{◌≡◌, ◌≤◌, ℕ, suc, List, length, map, sym, ap, ap₂, subst, ◌∙◌}
use Rattle.std.specs.Prelude.{slice_index}
use Rattle.icode.specs.declared.instruction.Instruction.{Instruction}
use Rattle.icode.specs.declared.registers.Registers.{Registers}
use Rattle.icode.specs.Code.{code_of}
use Rattle.icode.specs.Made.{IsMade}
use Rattle.select.specs.Rows.{routine, first_of}
use Rattle.select.specs.Selection.{part_of}
use Rattle.select.specs.Inner.Selecting.{saves_in}
use Rattle.select.proofs.RowPlaced.{row_places_are}
use Rattle.select.proofs.Selecting.{made, same_routine, saved_by}
use Rattle.select.proofs.row_places.RowPlaces.of.Goals as goal

pub routine_steps-requires : goal.routine_steps-requires
routine_steps-requires c = subst IsMade (sym c.instructions-instructions.ensures) (made c.args.self.now.code.now c.args.routine)

pub returns-clause-places : goal.returns-clause-places
returns-clause-places c =
    let code = c.args.self.now.code.now in
    let changed = c.args.self.now.changed.items in
    let own = c.saves_of-saves.result in
    let found = c.instructions-instructions.result.now in
    let saves : own ≡ saves_in code changed c.args.routine = c.saves_of-saves.ensures ∙ ap (λ (gs : List Registers). saves_in code gs c.args.routine) c.deref.ensures.value in
    let numbered : (q : ℕ) → slice_index c.deref-2.result.now q ≡ part_of code q = λ q. ap (λ (ns : List ℕ). slice_index ns q) c.deref-2.ensures.value ∙ c.args.self.now.numbered q in
    let steps : c.deref-3.result.now ≡ routine (part_of code) (saves_in code changed c.args.routine) (code_of code c.args.routine) = c.deref-3.ensures.value ∙ c.in_ok-steps.ensures.steps ∙ same_routine (slice_index c.deref-2.result.now) (part_of code) own found numbered
    ∙ ap₂ (λ (g : Registers) (xs : List Instruction). routine (part_of code) g xs) saves c.instructions-instructions.ensures in
    let firsts = subst (λ (xs : List Instruction). (k : ℕ) → k ≤ length xs → slice_index c.in_ok-firsts.firsts.items k ≡ first_of (saves_in code changed c.args.routine) xs k) c.instructions-instructions.ensures
    (subst (λ (g : Registers). (k : ℕ) → k ≤ length found → slice_index c.in_ok-firsts.firsts.items k ≡ first_of g found k) saves c.in_ok-firsts.ensures.each) in
    let at = ap₂ (λ (ps : List ℕ) (fs : List ℕ). map (slice_index ps) fs) c.deref-5.ensures.value c.deref-4.ensures.value in
    row_places_are code c.args.routine (saves_in code changed) c.deref-3.result.now c.in_ok-places.field-0.sizes.items c.in_ok-places.field-0.places.items c.in_ok-firsts.firsts.items c.in_ok-places_at.field-0.items
    (saved_by code changed c.args.self.now.saved) steps c.in_ok-places.ensures.settled c.in_ok-places.ensures.least c.in_ok-places.ensures.places
    (c.in_ok-firsts.ensures.many ∙ ap (λ (xs : List Instruction). suc (length xs)) c.instructions-instructions.ensures) firsts (c.in_ok-places_at.ensures ∙ at)
