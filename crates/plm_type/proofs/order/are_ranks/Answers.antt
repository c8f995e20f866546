use Rattle.std.proofs.Common.{◌≡◌, ℕ, zero, suc, ◌<◌, List, [], ◌∷◌, length, get_or, slice_get, slice_index_or, Contains, below_more, subst, sym, ap, ◌∙◌, arith}
use Rattle.std.specs.Global.{Vec}
use Rattle.plm_type.specs.Inner.Reach.{rows}
use Rattle.plm_type.specs.Reach.{row_of}
use Rattle.plm_type.proofs.order.are_ranks.Goals as goal

row_is : (g : List (Vec ℕ)) (k : ℕ) (v : Vec ℕ) → k < length g → v ≡ get_or g k v → row_of (slice_get (rows g) k) ≡ v.items
row_is [] k v h e = absurd (omega arith)
row_is (w ∷ ws) zero v h e = ap (λ (x : Vec ℕ). x.items) (sym e)
row_is (w ∷ ws) (suc k) v h e = row_is ws k v (omega arith) e

pub loop-procedure-preserved : goal.loop-procedure-preserved
loop-procedure-preserved c =
    let g = c.args.graph.now in
    let ranks = c.args.ranks.now in
    let k = c.loop-procedure.procedure in
    let row = row_is g k c.index-graph-procedure.result c.loop-procedure-test.true c.index-graph-procedure.is ∙ sym c.deref.ensures.value in
    below_more (λ p. (q : ℕ) → Contains (row_of (slice_get (rows g) p)) q → slice_index_or ranks q 0 < slice_index_or ranks p 0) k c.loop-procedure.invariant
    (λ q called. c.is_above.ensures c.if-not-is_above.false q (subst (λ (l : List ℕ). Contains l q) row called))
