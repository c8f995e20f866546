use Rattle.std.proofs.Common.{◌≡◌, ℕ, List, [], ◌∷◌, length, drop, sym, ◌∙◌, refl, arith, length-drop, None}
use Rattle.word86.specs.Place.{bytes, held}
use Rattle.icode.proofs.ram_objects.RamObjects.held.Goals as goal

-- where no object is left
held_nothing : (k : ℕ) (os sizes : List ℕ) (a n : ℕ) → length sizes ≡ 0 → held k os sizes a n ≡ None
held_nothing k [] [] a n h = refl
held_nothing k (o ∷ os) [] a n h = refl
held_nothing k os (x ∷ xs) a n h = absurd (omega (arith, h))

pub returns : goal.returns
returns c =
    let k = c.loop-k.k in
    let sizes = c.args.self.sizes.now in
    let h : length (drop k sizes) ≡ 0 = omega (arith, length-drop k sizes, c.loop-k.auto.k-end, c.loop-k-test.false) in
    sym (c.loop-k.invariant ∙ held_nothing k (drop k c.args.self.offsets.now) (drop k sizes) c.args.address (bytes c.args.width) h)
