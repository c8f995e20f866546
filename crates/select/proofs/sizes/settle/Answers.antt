use Rattle.std.proofs.Common.{◌≡◌, List, ℕ, length, map, inl, inr, sym, subst, ap, arith}
use Rattle.std.specs.Prelude.{sum}
use Rattle.select.specs.Inner.Settling.{longest}
use Rattle.select.specs.Inner.Settling.{IsSettling}
use Rattle.select.proofs.Lengthening.{begins, bounded, left, fewer_bytes}
use Rattle.select.proofs.sizes.settle.Goals as goal

pub loop-at-init : goal.loop-at-init
loop-at-init c = subst (λ (s : List ℕ). IsSettling c.args.extents.now s 0) (sym c.requires.short) (begins c.args.extents.now c.requires.extents)

pub loop-at-smaller : goal.loop-at-smaller
loop-at-smaller c =
    let xs = c.args.extents.now in
    let most = sum (map longest xs) in
    let n = length xs in
    elim c.look-at.ensures.advances [
      | inl e ↦
          let p = ap sum e.0 in
          let q : left most (sum c.look-at.new.sizes) n c.look-at.result ≡ left most (sum c.loop-at.sizes) n c.look-at.result = ap (λ x. left most x n c.look-at.result) p in
          omega (arith, q, e.1)
      | inr m ↦ fewer_bytes most (sum c.loop-at.sizes) (sum c.look-at.new.sizes) n c.loop-at.at c.look-at.result m (bounded xs c.requires.extents c.look-at.new.sizes c.look-at.result c.look-at.ensures.settling)
    ]
