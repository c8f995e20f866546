use Rattle.std.proofs.Common.{length, sym, subst, ◌∙◌}
use Rattle.select.specs.Inner.Selecting.{AllBelow}
use Rattle.select.proofs.Selecting.{routines_below}
use Rattle.select.proofs.row_places.RowPlaces.new.Goals as goal

pub numbers_of-requires : goal.numbers_of-requires
numbers_of-requires c =
    let code = c.args.code.now in
    subst (AllBelow (length code.procedures.items)) (sym (c.deref.ensures.value ∙ c.in_ok-routines_of.ensures.routines)) (routines_below code)
