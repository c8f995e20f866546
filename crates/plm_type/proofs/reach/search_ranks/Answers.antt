use Rattle.std.proofs.Common.{rules, ◌≡◌, ℕ, ◌<◌, ◌+◌, ◌∷◌, [], ◌++◌, List, Bool, false, length, slice_get, slice_index_or, count_by, true≢false, below_more, arith, sym, ap, subst, ◌∙◌, ◌↔◌}
use Rattle.std.proofs.lemmas.List.{length-map}
use Rattle.plm_type.specs.Inner.Reach.{rows, IsMarked}
use Rattle.plm_type.specs.Reach.{row_of, Leads}
use Rattle.plm_type.proofs.Exploring.{none_until}
use Rattle.plm_type.proofs.Ordering.{Ranked, all_ranked, ranked_more, index_last}
use Rattle.plm_type.proofs.reach.search_ranks.Goals as goal

pub returns-then-is_marked-clause-first : goal.returns-then-is_marked-clause-first
returns-then-is_marked-clause-first c = λ q h. (c.loop-procedure.invariant.ranked q h).apart

pub loop-procedure-preserved : goal.loop-procedure-preserved
loop-procedure-preserved c =
    let g = rows c.args.graph.now in
    let old = c.loop-procedure.ranks.items in
    let p = c.loop-procedure.procedure in
    let marks = c.in_ok-marks.marks.items in
    let long = length-map c.args.graph.now (λ v. v.items) in
    let more = c.in_ok-push.ensures.items in
    let n = 1 + c.count_marks.result in
    let exact : (k : ℕ) → k < length g → IsMarked marks k ↔ Leads g (row_of (slice_get g p)) k = λ k h.
    subst (λ (row : List ℕ). IsMarked marks k ↔ Leads g row k) c.row_at.ensures (c.in_ok-marks.ensures.reached k (subst (λ m. k < m) long h)) in
    let rank : slice_index_or (old ++ n ∷ []) p 0 ≡ 1 + count_by (λ mark. mark) marks =
    ap (λ (k : ℕ). slice_index_or (old ++ n ∷ []) k 0) (sym c.loop-procedure.invariant.long) ∙ index_last old n
    ∙ ap (λ (k : ℕ). 1 + k) (c.count_marks.ensures ∙ ap (λ (m : List Bool). count_by (λ mark. mark) m) c.deref-in-loop-procedure.ensures.value) in
    let here : Ranked g (old ++ n ∷ []) p = record {
      marks = marks;
      long = c.in_ok-marks.ensures.length ∙ sym long;
      exact = exact;
      rank = rank;
      apart = λ cycle. true≢false (sym ((exact p (subst (λ m. p < m) (sym long) c.loop-procedure-test.true)).1 cycle) ∙ (sym (c.is_marked.ensures ∙ ap (λ (m : List Bool). slice_index_or m p false) c.deref.ensures.value) ∙ c.if-is_marked.false));
    } in
    record {
      long = let size = c.in_ok-push.ensures.len in let was = c.loop-procedure.invariant.long in search rules;
      ranked = subst (λ (l : List ℕ). (q : ℕ) → q < p + 1 → Ranked g l q) (sym more)
          (below_more (Ranked g (old ++ n ∷ [])) p (λ q h. ranked_more g old n q (subst (λ m. q < m) (sym c.loop-procedure.invariant.long) h) (c.loop-procedure.invariant.ranked q h)) here);
    }

pub returns-clause-ranks : goal.returns-clause-ranks
returns-clause-ranks c =
    let g = rows c.args.graph.now in
    let long = length-map c.args.graph.now (λ v. v.items) in
    let past = c.loop-procedure-test.false in
    let end = c.loop-procedure.auto.procedure-end in
    let all : c.loop-procedure.procedure ≡ length c.args.graph.now = omega (arith, past, end) in
    all_ranked g c.loop-procedure.ranks.items (c.loop-procedure.invariant.long ∙ all ∙ sym long) (λ q h. c.loop-procedure.invariant.ranked q (subst (λ n. q < n) (long ∙ sym all) h))

pub returns-clause-none : goal.returns-clause-none
returns-clause-none c =
    none_until (rows c.args.graph.now) (length c.args.graph.now) (length-map c.args.graph.now (λ v. v.items))
    (λ q h. (c.loop-procedure.invariant.ranked q (let past = c.loop-procedure-test.false in omega (arith, h, past))).apart)
