-- From what is counted to the channel around it.
use Rattle.std.proofs.lemmas.Bool.{cases_Bool, and_parts}
use Rattle.std.proofs.Common.{◌≡◌, ℕ, zero, suc, Bool, true, false, not, ◌&&◌, ◌||◌, refl, sym, ap, ◌∙◌, subst, inl, inr, MatchBool}
use Rattle.std.specs.Prelude.{is_some}
use Rattle.pit8253.specs.Progress.{Progress, Still, Once, one, is_high}
use Rattle.pit8253.specs.Alike.{Alike, AlikeCounters}
use Rattle.pit8253.specs.Inner.Progress as many
use Rattle.pit8253.specs.Timer.{Counter, is_counting, is_periodic, is_terminal, moved, pulse, pulses, out}
use Rattle.pit8253.proofs.Phases.{clash, alike_refl}
use Rattle.pit8253.proofs.OnceLemmas.{pulses_once}
use Rattle.pit8253.specs.Channel.{IsPartOf, IsPart, Rises}
use Rattle.pit8253.specs.Inner.Segment.{IsStartOf, IsStart}

pub pulses_counting : (k : ℕ) (s : Counter) → is_counting s ≡ true → pulses k s ≡ record s { progress = many.pulses k s.progress }
unfolding pulses many.pulses
pulses_counting zero s h = refl
pulses_counting (suc k) s h =
    ap pulse (pulses_counting k s h) ∙ ap (λ b. record s { progress = moved b (many.pulses k s.progress) }) h

pub pulses_stuck : (k : ℕ) (s : Counter) → is_counting s ≡ false → pulses k s ≡ s
unfolding pulses
pulses_stuck zero s h = refl
pulses_stuck (suc k) s h = ap pulse (pulses_stuck k s h) ∙ ap (λ b. record s { progress = moved b s.progress }) h

or_none : (a b c : Bool) → b ≡ true → ((a && not b) || c) ≡ c
or_none true true c h = refl
or_none false true c h = refl
or_none a false c h = absurd (clash (sym h))

pub out_counting : (s : Counter) (m : Progress) → is_counting s ≡ true → out (record s { progress = m }) ≡ is_high m
out_counting s m h = or_none (is_periodic s.mode) s.gate (is_high m) (and_parts s.gate (not (is_terminal s.mode && is_some s.low)) h).0

pub out_pulses : (k : ℕ) (s : Counter) → is_counting s ≡ true → out (pulses k s) ≡ is_high (many.pulses k s.progress)
out_pulses k s h = ap out (pulses_counting k s h) ∙ out_counting s (many.pulses k s.progress) h

pub rises_lift : (k : ℕ) (s : Counter) → is_counting s ≡ true → many.Rises k s.progress → Rises k s
rises_lift k s h (i, below, low, high) = (i, below, out_pulses i s h ∙ low, out_pulses (suc i) s h ∙ high)

pub rises_drop : (k : ℕ) (s : Counter) → is_counting s ≡ true → Rises k s → many.Rises k s.progress
rises_drop k s h (i, below, low, high) = (i, below, sym (out_pulses i s h) ∙ low, sym (out_pulses (suc i) s h) ∙ high)

pub rose_lift : (b : Bool) (k : ℕ) (s : Counter) → is_counting s ≡ true → MatchBool b (many.Rises k s.progress) (¬ many.Rises k s.progress) → MatchBool b (Rises k s) (¬ Rises k s)
rose_lift true k s h r = rises_lift k s h r
rose_lift false k s h r = λ x. r (rises_drop k s h x)

pub rose_stuck : (k : ℕ) (s : Counter) → is_counting s ≡ false → Rises k s → ⊥
rose_stuck k s h (i, below, low, high) =
    clash (sym high ∙ (ap out (pulses_stuck (suc i) s h) ∙ (sym (ap out (pulses_stuck i s h)) ∙ low)))

pub alike_counters_refl : (s : Counter) → AlikeCounters s s
alike_counters_refl s = record { same_mode = refl; same_access = refl; same_progress = alike_refl s.progress; same_low = refl; same_gate = refl; same_latch = refl; same_high_next = refl }

pub moved_stuck : (k : ℕ) (s : Counter) → is_counting s ≡ false → AlikeCounters s (pulses k s)
moved_stuck k s h = subst (λ x. AlikeCounters s x) (sym (pulses_stuck k s h)) (alike_counters_refl s)

pub moved_lift : (k : ℕ) (s : Counter) (m : Progress) → is_counting s ≡ true → Alike m (many.pulses k s.progress) → AlikeCounters (record s { progress = m }) (pulses k s)
moved_lift k s m h a = subst (λ x. AlikeCounters (record s { progress = m }) x) (sym (pulses_counting k s h))
    (record { same_mode = refl; same_access = refl; same_progress = a; same_low = refl; same_gate = refl; same_latch = refl; same_high_next = refl })

-- nothing is counted before the first count
pub pulses_still : (k : ℕ) (b : Bool) → many.pulses k (Still b) ≡ Still b
unfolding many.pulses
pulses_still zero b = refl
pulses_still (suc k) b = ap one (pulses_still k b)

pub still_moved : (k : ℕ) (b : Bool) → Alike (Still b) (many.pulses k (Still b))
still_moved k b = subst (λ x. Alike (Still b) x) (sym (pulses_still k b)) refl

pub still_rises : (k : ℕ) (b : Bool) → many.Rises k (Still b) → ⊥
still_rises k b (i, below, low, high) = clash (sym high ∙ (ap is_high (pulses_still (suc i) b) ∙ (sym (ap is_high (pulses_still i b)) ∙ low)))

-- what is known of the progress after k pulses holds of the channel
pub progress_lift : (P : Progress → Type 0) (k : ℕ) (s : Counter) → (is_counting s ≡ true → P (many.pulses k s.progress)) → is_counting (pulses k s) ≡ true → P (pulses k s).progress
progress_lift P k s f h =
    elim (cases_Bool (is_counting s)) [
      | inl on ↦ subst (λ x. P x.progress) (sym (pulses_counting k s on)) (f on)
      | inr off ↦ absurd (clash (sym h ∙ (ap is_counting (pulses_stuck k s off) ∙ off)))
    ]

pub start_lift : (k : ℕ) (s : Counter) → (is_counting s ≡ true → IsStartOf (many.pulses k s.progress)) → IsStart (pulses k s)
start_lift k s f = progress_lift IsStartOf k s f

pub part_lift : (j k : ℕ) (s : Counter) → (is_counting s ≡ true → IsPartOf j (many.pulses k s.progress)) → IsPart j (pulses k s)
part_lift j k s f = progress_lift (IsPartOf j) k s f

pub still_part : (j k : ℕ) (b : Bool) → IsPartOf j (many.pulses k (Still b))
still_part j k b = subst (λ x. IsPartOf j x) (sym (pulses_still k b)) tt

pub once_part : (j k n p : ℕ) → IsPartOf j (many.pulses k (Once n p))
once_part j k n p = subst (λ x. IsPartOf j x) (sym (pulses_once n p k)) tt
