use Rattle.std.proofs.Common.{◌≡◌, ◌+◌, ◌<◌, ◌≤◌, length, Bool, List, [], ◌∷◌, drop, get_or, sym, ap, subst, ◌∙◌}
use Rattle.std.proofs.Math.ListN.{drop_of_length-le}
use Rattle.std.proofs.lemmas.List.{append-nil, drop_more, length-map, map-append}
use Rattle.plm_decl.specs.declared.names.Procedure.{Procedure}
use Rattle.plm_type.specs.Inner.Reach.{rows, marks_of, AreReached}
use Rattle.plm_type.specs.Sharing.{roots, handlers_from}
use Rattle.plm_type.proofs.MarkedTwice.{Marked, one_searched, none_searched}
use Rattle.plm_type.proofs.sharing.reached_from_roots.Goals as goal
use Rattle.plm_type.proofs.sharing.reached_from_roots.Goals.{then-serves_interrupt+in_ok-reached-2+in_ok-push-2, else-serves_interrupt}

pub loop-number-preserved : goal.loop-number-preserved
loop-number-preserved c =
    let g = rows c.args.graph.now in
    let all = roots c.args.program.now in
    let ps = c.args.program.now.names.procedures.items in
    let k = c.loop-number.number in
    let p = c.procedure-item.result in
    let old = marks_of c.loop-number.roots.items in
    let same : c.deref-procedure-items.result.now ≡ ps = c.deref-procedure-items.ensures.value ∙ (λ j. (c.names.ensures.names j).procedures.items) in
    let within : k < length ps = subst (λ (l : List Procedure). k < length l) same c.loop-number-test.true in
    let here : drop k ps ≡ p ∷ drop (k + 1) ps = drop_more ps k p within ∙ ap (λ (x : Procedure). x ∷ drop (k + 1) ps) (sym (c.procedure-item.is ∙ ap (λ (l : List Procedure). get_or l k p) same)) in
    let before : Marked g all (handlers_from k (p ∷ drop (k + 1) ps)) old = subst (λ (l : List Procedure). Marked g all (handlers_from k l) old) here c.loop-number.invariant in
    elim c.if-serves_interrupt.branch [
      | then-serves_interrupt+in_ok-reached-2+in_ok-push-2 w ↦
          let marks = w.in_ok-reached-2.field-0.items in
          let rows_long = length-map c.args.graph.now (λ v. v.items) in
          one_searched g all k p (drop (k + 1) ps) old (marks_of c.if-serves_interrupt.roots.items) marks
          (sym c.serves_interrupt.ensures ∙ w.if-serves_interrupt.true)
          (w.in_ok-reached-2.ensures.length ∙ sym rows_long)
          (λ q h. w.in_ok-reached-2.ensures.reached q (subst (λ n. q < n) rows_long h))
          ((λ j. marks_of (w.roots-is j).items) ∙ ap marks_of w.in_ok-push-2.ensures.items ∙ map-append (λ v. v.items) c.loop-number.roots.items (w.in_ok-reached-2.field-0 ∷ []))
          before
      | else-serves_interrupt w ↦
          none_searched g all k p (drop (k + 1) ps) old (marks_of c.if-serves_interrupt.roots.items)
          (sym c.serves_interrupt.ensures ∙ w.if-serves_interrupt.false) (λ j. marks_of (w.roots-is j).items) before
    ]

pub returns : goal.returns
returns c =
    let g = rows c.args.graph.now in
    let all = roots c.args.program.now in
    let ps = c.args.program.now.names.procedures.items in
    let k = c.loop-number.number in
    let same : c.deref-procedure-items.result.now ≡ ps = c.deref-procedure-items.ensures.value ∙ (λ j. (c.names.ensures.names j).procedures.items) in
    let past : length ps ≤ k = subst (λ (l : List Procedure). length l ≤ k) same c.loop-number-test.false in
    subst (λ (x : List (List Bool)). AreReached g all x) (append-nil (marks_of c.loop-number.roots.items))
    (c.loop-number.invariant [] (subst (λ (l : List Procedure). AreReached g (handlers_from k l) []) (sym (drop_of_length-le ps past)) tt))
