use Rattle.std.proofs.Common.{sym, subst, take, get_or}
use Rattle.std.proofs.lemmas.List.{take_more}
use Rattle.plm_type.specs.Inner.Reach.{Marks}
use Rattle.plm_type.proofs.Marking.{one_marked}
use Rattle.plm_type.proofs.reach.mark.Goals as goal

pub loop-procedure-preserved : goal.loop-procedure-preserved
loop-procedure-preserved c =
    let here = c.loop-procedure in
    let next = c.args.next.now in
    let p = get_or next here.procedure-index 0 in
    subst (λ xs. Marks c.args.marks.now.items c.mark_one.new.marks.items c.args.work.now.items c.mark_one.new.work.items xs)
    (sym (take_more next here.procedure-index 0 c.loop-procedure-test.true))
    (one_marked c.args.marks.now.items here.marks.items c.mark_one.new.marks.items c.args.work.now.items here.work.items c.mark_one.new.work.items (take here.procedure-index next) p
    here.invariant (record { marks = c.in_ok-mark_one.ensures.marks; work = c.in_ok-mark_one.ensures.work }))
