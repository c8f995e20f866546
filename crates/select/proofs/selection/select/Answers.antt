use Rattle.std.proofs.Common.{List, length, sym, subst, ◌∙◌}
use Rattle.icode.specs.declared.code.Routine.{Routine}
use Rattle.icode.specs.declared.registers.Registers.{Registers}
use Rattle.select.specs.Selection.{ArePartsOf}
use Rattle.select.specs.Inner.Selecting.{saves_in, AllBelow}
use Rattle.select.proofs.Selecting.{saved_by, routines_below}
use Rattle.select.proofs.selection.select.Goals as goal

pub numbers_of-requires : goal.numbers_of-requires
numbers_of-requires c =
    let code = c.args.code.now in
    subst (AllBelow (length code.procedures.items)) (sym (c.deref.ensures.value ∙ c.in_ok-routines.ensures.routines)) (routines_below code)

pub returns-clause-parts : goal.returns-clause-parts
returns-clause-parts c =
    let code = c.args.code.now in
    let parts = c.in_ok-parts.parts.items in
    let changed = subst (λ (gs : List Registers). ArePartsOf code (saves_in code gs) 0 c.deref-4.result.now parts) c.deref-2.ensures.value c.in_ok-parts.ensures.parts in
    record {
      saves = saves_in code c.in_ok-changed.changed.items;
      saved = saved_by code c.in_ok-changed.changed.items c.in_ok-changed.ensures.saved;
      parts_are = subst (λ (rs : List Routine). ArePartsOf code (saves_in code c.in_ok-changed.changed.items) 0 rs parts) (c.deref-4.ensures.value ∙ c.in_ok-routines.ensures.routines) changed;
    }
