-- Where steps begin.
use Rattle.std.proofs.Common.{◌≡◌, ℕ, List, [], ◌∷◌, length, take, refl, arith}
use Rattle.std.specs.Prelude.{sum}
use Rattle.std.proofs.lemmas.List.Sums.{sum_by-cons}
use Rattle.select.specs.Sizes.{start}

-- all steps have all bytes
pub whole : (s : List ℕ) → start s (length s) ≡ sum s
whole [] = refl
whole (x ∷ s) = omega (arith, sum_by-cons (λ y. y) x (take (length s) s), sum_by-cons (λ y. y) x s, whole s)
