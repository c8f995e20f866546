-- Mode 0: one rise, after the last pulse of the count.
use Rattle.std.proofs.Common.{◌≡◌, ℕ, zero, suc, ◌+◌, ◌-◌, ◌%◌, ◌<◌, ◌≤◌, true, false, ltb, ◌⊎◌, refl, sym, ap, ◌∙◌, subst, inl, inr, arith, add-zero}
use Rattle.std.proofs.Math.Nat.{add-mod_right}
use Rattle.std.proofs.lemmas.Bool.Decides.{nat_tests}
use Rattle.pit8253.specs.Progress.{Once, one, is_high}
use Rattle.pit8253.specs.Alike.{SameOnce, Alike}
use Rattle.pit8253.specs.Inner.Progress.{pulses, Rises}

pub pulses_once : (n p k : ℕ) → pulses k (Once n p) ≡ Once n (p + k)
unfolding pulses
pulses_once n p zero = ap (Once n) (sym (add-zero p))
pulses_once n p (suc k) =
    let x : p + k + 1 ≡ p + suc k = omega arith in
    ap one (pulses_once n p k) ∙ ap (Once n) x

pub high_once : (n p k : ℕ) → is_high (pulses k (Once n p)) ≡ ltb n (p + k)
high_once n p k = ap is_high (pulses_once n p k)

pub once_same : (n p k c : ℕ) → (c ≡ p + k) ⊎ ((n + 65536 < p + k) × (c ≡ p + k - 65536)) → SameOnce n c (p + k)
once_same n p k c (inl e) = inl e
once_same n p k c (inr (far, e)) =
    let x : p + k - 1 ≡ (c - 1) + 65536 = omega arith in
    inr (omega arith, omega arith, sym (ap (λ y. y % 65536) x ∙ add-mod_right (c - 1) 65536))

pub once_moved : (n p k c : ℕ) → (c ≡ p + k) ⊎ ((n + 65536 < p + k) × (c ≡ p + k - 65536)) → Alike (Once n c) (pulses k (Once n p))
once_moved n p k c h = subst (λ x. Alike (Once n c) x) (sym (pulses_once n p k)) (refl, once_same n p k c h)

pub once_rises : (n p k : ℕ) → p ≤ n → n < p + k → Rises k (Once n p)
once_rises n p k a b = (
  n - p,
  omega arith,
  high_once n p (n - p) ∙ (let z : ltb n (p + (n - p)) ≡ false = grind (arith, nat_tests) in z),
  high_once n p (suc (n - p)) ∙ (let z : ltb n (p + suc (n - p)) ≡ true = grind (arith, nat_tests) in z),
)

pub once_high_stays : (n p k : ℕ) → n < p → Rises k (Once n p) → ⊥
once_high_stays n p k a (i, below, low, high) =
    let z : ltb n (p + i) ≡ false = sym (high_once n p i) ∙ low in
    grind (arith, nat_tests, z)

pub once_low_stays : (n p k : ℕ) → p + k ≤ n → Rises k (Once n p) → ⊥
once_low_stays n p k a (i, below, low, high) =
    let z : ltb n (p + suc i) ≡ true = sym (high_once n p (suc i)) ∙ high in
    grind (arith, nat_tests, z)
