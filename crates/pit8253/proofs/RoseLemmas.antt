-- The test and the fact.
use Rattle.std.proofs.lemmas.Bool.{cases_lt, or_right, or_from}
use Rattle.std.proofs.Common.{◌≡◌, ℕ, zero, suc, Bool, true, false, not, ◌||◌, ◌&&◌, refl, sym, ap, ◌∙◌, inl, inr, arith, MatchBool}
use Rattle.pit8253.specs.Timer.{Counter, pulses, out}
use Rattle.pit8253.specs.Channel.{Rises}
use Rattle.pit8253.specs.Timer.{rose}
use Rattle.pit8253.proofs.Compose.{rises_earlier}

step_none : (a b : Bool) → (a ≡ false → b ≡ true → ⊥) → (not a && b) ≡ false
step_none true b h = refl
step_none false true h = absurd (h refl refl)
step_none false false h = refl

step_some : (a b : Bool) → a ≡ false → b ≡ true → (not a && b) ≡ true
step_some a b p q = ap (λ x. not x && b) p ∙ q

pub rose_true : (k : ℕ) (s : Counter) → Rises k s → rose k s ≡ true
unfolding rose
rose_true zero s (i, below, low, high) = absurd (omega arith)
rose_true (suc k) s (i, below, low, high) =
    elim (cases_lt i k) [
      | inl lt ↦ ap (λ x. x || (not (out (pulses k s)) && out (pulses (suc k) s))) (rose_true k s (i, lt, low, high))
      | inr ge ↦
          let e : i ≡ k = omega arith in
          or_right (rose k s) (not (out (pulses k s)) && out (pulses (suc k) s))
          (step_some (out (pulses k s)) (out (pulses (suc k) s)) (ap (λ j. out (pulses j s)) (sym e) ∙ low) (ap (λ j. out (pulses (suc j) s)) (sym e) ∙ high))
    ]

pub rose_false : (k : ℕ) (s : Counter) → (Rises k s → ⊥) → rose k s ≡ false
unfolding rose
rose_false zero s f = refl
rose_false (suc k) s f =
    or_from (rose k s) (not (out (pulses k s)) && out (pulses (suc k) s))
    (rose_false k s (λ r. f (rises_earlier k (suc k) s (omega arith) r)))
    (step_none (out (pulses k s)) (out (pulses (suc k) s)) (λ low high. f (k, omega arith, low, high)))

pub rose_match : (x : Bool) (k : ℕ) (s : Counter) → MatchBool x (Rises k s) (¬ Rises k s) → x ≡ rose k s
rose_match true k s r = sym (rose_true k s r)
rose_match false k s r = sym (rose_false k s r)
