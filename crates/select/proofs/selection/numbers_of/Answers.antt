use Rattle.std.proofs.Common.{subst, sym, drop, ◌+◌, get_or}
use Rattle.std.proofs.lemmas.List.{drop_more}
use Rattle.icode.specs.declared.code.Routine.{Routine}
use Rattle.icode.specs.declared.code.Routine.TheVariants.{Main}
use Rattle.std.proofs.Common.{ℕ}
use Rattle.select.specs.Inner.Selecting.{Below}
use Rattle.select.proofs.Selecting.{below_at}
use Rattle.select.proofs.selection.numbers_of.Goals as goal

pub note-requires : goal.note-requires
note-requires c =
    let rs = c.args.routines.now in
    let k = c.loop-part.part in
    let r : Routine = get_or rs k Main in
    subst (λ (n : ℕ). Below n r) (sym c.loop-part.invariant.many) (below_at _ rs k r (drop (k + 1) rs) c.requires (drop_more rs k Main c.loop-part-test.true))
