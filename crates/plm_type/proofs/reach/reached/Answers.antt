use Rattle.std.proofs.Common.{[], length, vec_len, sym, subst, ◌∙◌, ◌<◌}
use Rattle.std.proofs.lemmas.List.{length-map, length-replicate}
use Rattle.plm_type.specs.Inner.Reach.{rows, Marks}
use Rattle.plm_type.proofs.Exploring.{Explored, explored_first, explored_more, explored_all, emptied}
use Rattle.plm_type.proofs.reach.reached.Goals as goal

pub loop-procedure-init : goal.loop-procedure-init
loop-procedure-init c =
    let filled = c.in_ok-marks.ensures.items_if_clones_equal (λ y e. e) in
    explored_first (rows c.args.graph.now) c.args.first.now (length c.args.graph.now) c.mark.new.marks.items c.mark.new.work.items (length-replicate _ _ ∙ sym (length-map c.args.graph.now (λ v. v.items)))
    (subst (λ m. Marks m c.mark.new.marks.items [] c.mark.new.work.items c.args.first.now) filled
    (subst (λ w. Marks c.in_ok-marks.marks.items c.mark.new.marks.items w c.mark.new.work.items c.args.first.now) c.new-work.ensures.items c.in_ok-mark.ensures))

pub loop-procedure-preserved : goal.loop-procedure-preserved
loop-procedure-preserved c =
    let here = c.loop-procedure in
    let g = rows c.args.graph.now in
    let first = c.args.first.now in
    explored_more g first here.marks.items c.mark-in-Some.new.marks.items c.pop.new.self.items c.mark-in-Some.new.work.items c.in-Some.procedure
    (subst (λ w. Explored g first here.marks.items w) c.in-Some.ensures.items here.invariant)
    (subst (λ xs. Marks here.marks.items c.mark-in-Some.new.marks.items c.pop.new.self.items c.mark-in-Some.new.work.items xs) c.row_at.ensures c.in_ok-mark-2.ensures)

pub returns-clause-reached : goal.returns-clause-reached
returns-clause-reached c = λ k h.
    let here = c.loop-procedure in
    let work = emptied (vec_len here.work) here.work.items c.pop.new.self.items c.in_default.ensures.cases.0 c.in_default.ensures.rest c.in_default.ensures.items in
    explored_all (rows c.args.graph.now) c.args.first.now here.marks.items (subst (λ w. Explored (rows c.args.graph.now) c.args.first.now here.marks.items w) work here.invariant) k
    (subst (λ n. k < n) (sym (length-map c.args.graph.now (λ v. v.items))) h)
