use Rattle.std.proofs.Common.{get_or}
use Rattle.std.proofs.lemmas.List.{drop_all, drop_more}
use Rattle.icode.specs.declared.code.Routine.TheVariants.{Main}
use Rattle.select.specs.Inner.Selecting.{saves_in}
use Rattle.select.proofs.Selecting.{parts_more, parts_done}
use Rattle.select.proofs.selection.parts_of.Goals as goal

pub loop-k-preserved : goal.loop-k-preserved
loop-k-preserved c =
    let rs = c.args.routines.now in
    let k = c.loop-k.k in
    parts_more c.args.code.now (saves_in c.args.code.now c.args.changed.now) c.args.first k rs (get_or rs k Main) c.in_ok-part.field-0 c.loop-k.parts.items c.push.new.self.items (drop_more rs k Main c.loop-k-test.true) c.in_ok-push.ensures.items c.in_ok-part.ensures.part c.loop-k.invariant

pub returns-clause-parts : goal.returns-clause-parts
returns-clause-parts c =
    let rs = c.args.routines.now in
    parts_done c.args.code.now (saves_in c.args.code.now c.args.changed.now) c.args.first c.loop-k.k rs c.loop-k.parts.items (drop_all c.loop-k.k rs c.loop-k-test.false) c.loop-k.invariant
