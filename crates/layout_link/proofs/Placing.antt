-- Objects that lie one after another.
use Rattle.std.proofs.Common.{◌≡◌, ℕ, zero, suc, ◌+◌, ◌<◌, ◌≤◌, List, [], ◌∷◌, length, map, get_or, refl, sym, ap, ◌∙◌, arith}
use Rattle.std.specs.Prelude.{sum}
use Rattle.std.specs.List.{sum_by}
use Rattle.std.proofs.lemmas.List.Sums.{sum_by-cons}
use Rattle.word86.specs.MemoryMap.{first_offset, data_room}
use Rattle.plm_decl.specs.declared.names.Object.{Object}
use Rattle.plm_decl.specs.Placement.{IsPlacement}
use Rattle.layout_link.specs.Objects.{offsets_from}

long : (from : ℕ) (sizes : List ℕ) → length (offsets_from from sizes) ≡ length sizes
long from [] = refl
long from (n ∷ ns) = ap suc (long (from + n) ns)

above : (from : ℕ) (sizes : List ℕ) (k : ℕ) → k < length sizes → from ≤ get_or (offsets_from from sizes) k 0
above from [] k lt = absurd (omega arith)
above from (n ∷ ns) zero lt = omega arith
above from (n ∷ ns) (suc k) lt = let h = above (from + n) ns k (omega (arith, lt)) in omega (arith, h)

-- an object ends where the last one ends, or before
pub below : (from : ℕ) (sizes : List ℕ) (k : ℕ) → get_or (offsets_from from sizes) k 0 + get_or sizes k 0 ≤ from + sum sizes
below from [] zero = omega arith
below from [] (suc k) = omega arith
below from (n ∷ ns) zero = omega (arith, sum_by-cons (λ x. x) n ns)
below from (n ∷ ns) (suc k) = omega (arith, sum_by-cons (λ x. x) n ns, below (from + n) ns k)

in_order : (from : ℕ) (sizes : List ℕ) (j k : ℕ) → j < k → k < length sizes → get_or (offsets_from from sizes) j 0 + get_or sizes j 0 ≤ get_or (offsets_from from sizes) k 0
in_order from [] j k l lt = absurd (omega arith)
in_order from (n ∷ ns) j zero l lt = absurd (omega arith)
in_order from (n ∷ ns) zero (suc k) l lt = above (from + n) ns k (omega (arith, lt))
in_order from (n ∷ ns) (suc j) (suc k) l lt = in_order (from + n) ns j k (omega (arith, l)) (omega (arith, lt))

pub is_placement : (sizes : List ℕ) → sum sizes ≤ data_room → IsPlacement (offsets_from first_offset sizes) sizes
is_placement sizes room = record {
  each = long first_offset sizes;
  within = λ k lt b h. let a = above first_offset sizes k lt in let e = below first_offset sizes k in (omega (arith, a, h.0), omega (arith, e, h.1, room));
  apart = λ k lt j l b hj hk. let o = in_order first_offset sizes j k l lt in absurd (omega (arith, o, hj.1, hk.0));
}

pub sum_sizes : (os : List Object) → sum (map (λ o. o.size) os) ≡ sum_by (λ o. o.size) os
sum_sizes [] = refl
sum_sizes (o ∷ os) = sum_by-cons (λ x. x) o.size (map (λ x. x.size) os) ∙ ap (λ n. o.size + n) (sum_sizes os) ∙ sym (sum_by-cons (λ x. x.size) o os)
