use Rattle.std.proofs.Common.{◌≡◌, ◌++◌, ℕ, List, length, ap, sym, subst, ◌∙◌}
use Rattle.icode.specs.declared.code.Routine.{Routine}
use Rattle.icode.specs.declared.registers.Registers.{Registers}
use Rattle.select.specs.Selection.{ArePartsOf, section, sections_before}
use Rattle.select.specs.Inner.Selecting.{saves_in, AllBelow}
use Rattle.select.proofs.Selecting.{saved_by, routines_below}
use Rattle.select.proofs.selection.select_section.Goals as goal

pub numbers_of-requires : goal.numbers_of-requires
numbers_of-requires c =
    let code = c.args.code.now in
    subst (AllBelow (length code.procedures.items)) (sym (c.deref.ensures.value ∙ c.in_ok-routines_of.ensures.routines)) (routines_below code)

pub returns-clause-parts : goal.returns-clause-parts
returns-clause-parts c =
    let code = c.args.code.now in
    let parts = c.in_ok-parts.parts.items in
    let first : c.len.result ≡ length (sections_before code c.args.section) = c.len.ensures ∙ c.in_ok-before.before.ok.0 ∙ ap length c.in_ok-before.ensures.routines in
    let own : c.add_section.new.routines.items ≡ section code c.args.section = c.in_ok-add_section.ensures.routines ∙ ap (λ (l : List Routine). l ++ section code c.args.section) c.new-routines.ensures.items in
    let changed = subst (λ (gs : List Registers). ArePartsOf code (saves_in code gs) c.len.result c.deref-4.result.now parts) c.deref-2.ensures.value c.in_ok-parts.ensures.parts in
    let placed = subst (λ (n : ℕ). ArePartsOf code (saves_in code c.in_ok-changed.changed.items) n c.deref-4.result.now parts) first changed in
    record {
      saves = saves_in code c.in_ok-changed.changed.items;
      saved = saved_by code c.in_ok-changed.changed.items c.in_ok-changed.ensures.saved;
      parts_are = subst (λ (rs : List Routine). ArePartsOf code (saves_in code c.in_ok-changed.changed.items) (length (sections_before code c.args.section)) rs parts) (c.deref-4.ensures.value ∙ own) placed;
    }
