-- Periods, phases and rises.
use Rattle.std.proofs.lemmas.Bool.{cases_lt}
use Rattle.std.proofs.Common.{◌≡◌, ℕ, zero, suc, ◌+◌, ◌-◌, ◌*◌, ◌/◌, ◌%◌, ◌<◌, ◌≤◌, Bool, true, false, not, ◌||◌, nat_eq, nat_lt, ◌≢◌, ◌⊎◌, refl, sym, ap, ◌∙◌, subst, inl, inr, arith, add-zero, mod-eq_of_lt, mod-lt}
use Rattle.std.proofs.Math.Nat.{mod_self, mod-one, zero-mod, div-add-mod, add-mul-mod_self_left, mul-mod_right}
use Rattle.std.specs.Prelude.{◌==◌, Option, Some, None, if◌then◌else◌}
use Rattle.std.proofs.lemmas.Bool.Decides.{nat_tests}
use Rattle.pit8253.specs.declared.mode.Waveform.{Waveform}
use Rattle.pit8253.specs.declared.mode.Waveform.TheVariants.{Rate, Square}
use Rattle.pit8253.specs.Progress.{Progress, Still, Once, Again, renewed, one, out_at, is_high, count, count_at}
use Rattle.pit8253.specs.Alike.{SamePhase, Alike}
use Rattle.pit8253.specs.Inner.Progress.{pulses, Rises}
use Rattle.pit8253.specs.Channel.{IsPartOf}
use Rattle.pit8253.specs.Inner.Segment.{IsStartOf}

-- a period begins high
pub out_first : (s : Waveform) (n : ℕ) → 0 < n → out_at s n 0 ≡ true
out_first Rate n h = grind (arith, nat_tests)
out_first Square n h = grind (arith, nat_tests)

-- it ends low, unless it is one pulse long
pub out_last : (s : Waveform) (n : ℕ) → 1 < n → out_at s n (n - 1) ≡ false
out_last Rate n h = grind (arith, nat_tests)
out_last Square n h = grind (arith, nat_tests)

-- and does not rise within
pub out_falls : (s : Waveform) (n q : ℕ) → q + 1 < n → out_at s n q ≡ false → out_at s n (q + 1) ≡ true → ⊥
out_falls Rate n q h low high = grind (arith, nat_tests)
out_falls Square n q h low high = grind (arith, nat_tests)

pub pulses_suc : (k : ℕ) (s : Progress) → pulses (suc k) s ≡ one (pulses k s)
unfolding pulses
pulses_suc k s = refl

pub pulses_none : (s : Progress) → pulses 0 s ≡ s
unfolding pulses
pulses_none s = refl

-- within a period
pub pulses_inside : (s : Waveform) (n m p k : ℕ) → 0 < p → p + k ≤ n → pulses k (Again s n (Some m) p) ≡ Again s n (Some m) (p + k)
unfolding pulses
pulses_inside s n m p zero a b = ap (λ x. Again s n (Some m) x) (sym (add-zero p))
pulses_inside s n m p (suc k) a b =
    let below : p + k < n = omega arith in
    let small : (p + k) % n ≡ p + k = mod-eq_of_lt below in
    let no : ((p + k) % n == 0) ≡ false = grind (arith, nat_tests) in
    let x : p + k + 1 ≡ p + suc k = omega arith in
    ap one (pulses_inside s n m p k a (omega arith)) ∙ (ap (λ b. renewed b s n m (p + k)) no ∙ ap (λ x. Again s n (Some m) x) x)

-- from a period's start
pub pulses_start : (s : Waveform) (n m p k : ℕ) → p % n ≡ 0 → pulses (suc k) (Again s n (Some m) p) ≡ Again s m None (suc k)
unfolding pulses
pulses_start s n m p zero a =
    let yes : (p % n == 0) ≡ true = grind (arith, nat_tests) in
    ap (λ b. renewed b s n m p) yes
pulses_start s n m p (suc k) a =
    let x : suc k + 1 ≡ suc (suc k) = omega arith in
    ap one (pulses_start s n m p k a) ∙ ap (λ x. Again s m None x) x

abbrev pub wave : Waveform → ℕ → ℕ → Bool
wave s n p = (p == 0) || out_at s n ((p - 1) % n)

pub wave_at : (s : Waveform) (n p : ℕ) → 0 < p → wave s n p ≡ out_at s n ((p - 1) % n)
wave_at s n p h =
    let no : (p == 0) ≡ false = grind (arith, nat_tests) in
    ap (λ b. b || out_at s n ((p - 1) % n)) no

-- in the first period the phase is the number itself
pub wave_early : (s : Waveform) (n p : ℕ) → 0 < p → p ≤ n → wave s n p ≡ out_at s n (p - 1)
wave_early s n p a b =
    let below : p - 1 < n = omega arith in
    wave_at s n p a ∙ ap (out_at s n) (mod-eq_of_lt below)

-- no rise inside a period
pub wave_falls : (s : Waveform) (n p : ℕ) → 0 < p → p < n → wave s n p ≡ false → wave s n (p + 1) ≡ true → ⊥
wave_falls s n p a b low high =
    let x : p - 1 + 1 ≡ p + 1 - 1 = omega arith in
    out_falls s n (p - 1) (omega arith) (sym (wave_early s n p a (omega arith)) ∙ low)
    (ap (out_at s n) x ∙ (sym (wave_early s n (p + 1) (omega arith) (omega arith)) ∙ high))

pub no_rise_inside : (s : Waveform) (n m p k : ℕ) → 0 < p → p + k ≤ n → Rises k (Again s n (Some m) p) → ⊥
no_rise_inside s n m p k a b (i, below, low, high) =
    let e : p + suc i ≡ p + i + 1 = omega arith in
    wave_falls s n (p + i) (omega arith) (omega arith)
    (sym (ap is_high (pulses_inside s n m p i a (omega arith))) ∙ low)
    (ap (wave s n) (sym e) ∙ (sym (ap is_high (pulses_inside s n m p (suc i) a (omega arith))) ∙ high))

pub high_start : (s : Waveform) (n m p k : ℕ) → p % n ≡ 0 → is_high (pulses (suc k) (Again s n (Some m) p)) ≡ wave s m (suc k)
high_start s n m p k a = ap is_high (pulses_start s n m p k a)

pub wave_first : (s : Waveform) (m : ℕ) → 0 < m → wave s m 1 ≡ true
wave_first s m h = wave_early s m 1 (omega arith) (omega arith) ∙ out_first s m h

pub wave_over : (s : Waveform) (m : ℕ) → 1 < m → wave s m m ≡ false
wave_over s m h = wave_early s m m (omega arith) (omega arith) ∙ out_last s m h

pub wave_again : (s : Waveform) (m : ℕ) → 1 < m → wave s m (suc m) ≡ true
wave_again s m h =
    let x : suc m - 1 ≡ m = omega arith in
    wave_at s m (suc m) (omega arith) ∙ (ap (out_at s m) (ap (λ y. y % m) x ∙ mod_self m) ∙ out_first s m (omega arith))

pub wave_one : (s : Waveform) (p : ℕ) → 0 < p → wave s 1 p ≡ true
wave_one s p h = wave_at s 1 p h ∙ (ap (out_at s 1) (mod-one (p - 1)) ∙ out_first s 1 (omega arith))

-- two whole periods, where there is more than one
two_periods_at : (m k q : ℕ) → m < k → k ≡ m * q → 2 * m ≤ k
two_periods_at m k zero a e = omega (arith, e)
two_periods_at m k (suc zero) a e = omega (arith, e)
two_periods_at m k (suc (suc q)) a e = omega (arith, e)

pub two_periods : (m k : ℕ) → m < k → k % m ≡ 0 → 2 * m ≤ k
two_periods m k a b =
    let e : k ≡ m * (k / m) = omega (arith, div-add-mod k m, b) in
    two_periods_at m k (k / m) a e

pub clash : true ≡ false → ⊥
clash e = cc

-- a rise among k pulses from a period's start, counted from its end
rise_later : (s : Waveform) (m k i : ℕ) → 0 < m → suc i < k → (k ≤ m) ⊎ (k % m ≡ 0) → wave s m (suc i) ≡ false → wave s m (suc i + 1) ≡ true → (2 ≤ m) × (2 * m ≤ k)
rise_later s m k i pm below parts low high =
    elim (cases_lt (suc i) m) [
      | inl lt ↦ absurd (wave_falls s m (suc i) (omega arith) lt low high)
      | inr ge ↦ (
        elim (cases_lt 1 m) [
          | inl more ↦ more
          | inr single ↦
              let e : m ≡ 1 = omega arith in
              absurd (clash (sym (wave_one s (suc i) (omega arith)) ∙ (ap (λ x. wave s x (suc i)) (sym e) ∙ low)))
        ],
        elim parts [ inl few ↦ absurd (omega arith) | inr whole ↦ two_periods m k (omega arith) whole ],
      )
    ]

pub rise_start_only : (s : Waveform) (n m p k : ℕ) → p % n ≡ 0 → 0 < m → (k ≤ m) ⊎ (k % m ≡ 0) → Rises k (Again s n (Some m) p) → (wave s n p ≡ false) ⊎ ((2 ≤ m) × (2 * m ≤ k))
unfolding pulses
rise_start_only s n m p k a pm parts (zero, below, low, high) = inl low
rise_start_only s n m p k a pm parts (suc i, below, low, high) =
    let x : suc (suc i) ≡ suc i + 1 = omega arith in
    inr (rise_later s m k i pm below parts (sym (high_start s n m p i a) ∙ low)
    (ap (wave s m) (sym x) ∙ (sym (high_start s n m p (suc i) a) ∙ high)))

pub rise_first : (s : Waveform) (n m p k : ℕ) → p % n ≡ 0 → 0 < m → 0 < k → wave s n p ≡ false → Rises k (Again s n (Some m) p)
unfolding pulses
rise_first s n m p k a pm pk low = (0, pk, low, high_start s n m p 0 a ∙ wave_first s m pm)

rise_second_at : (s : Waveform) (n m p k h : ℕ) → p % n ≡ 0 → m ≡ suc h → 2 ≤ m → 2 * m ≤ k → Rises k (Again s n (Some m) p)
rise_second_at s n m p k h a e two more = (
  suc h,
  omega arith,
  high_start s n m p h a ∙ (ap (wave s m) (sym e) ∙ wave_over s m (omega arith)),
  high_start s n m p (suc h) a ∙ (ap (λ x. wave s m (suc x)) (sym e) ∙ wave_again s m (omega arith)),
)

pub rise_second : (s : Waveform) (n m p k : ℕ) → p % n ≡ 0 → 2 ≤ m → 2 * m ≤ k → Rises k (Again s n (Some m) p)
rise_second s n m p k a two more = rise_second_at s n m p k (m - 1) a (omega arith) two more

-- what a segment from a period's start leaves
whole_phase : (m k q : ℕ) → 0 < m → 0 < k → k ≡ m * q → (m - 1) % m ≡ (k - 1) % m
whole_phase m k zero pm pk e = absurd (omega (arith, e))
whole_phase m k (suc r) pm pk e =
    let x : k - 1 ≡ (m - 1) + m * r = omega (arith, e) in
    sym (ap (λ y. y % m) x ∙ add-mul-mod_self_left (m - 1) m r)

pub same_phase_start : (m k c : ℕ) → 0 < m → 0 < k → ((k ≤ m) × (c ≡ k)) ⊎ ((m < k) × (k % m ≡ 0) × (c ≡ m)) → SamePhase m c k
same_phase_start m k c pm pk (inl (a, e)) = ((λ h. omega arith), (λ h. omega arith), ap (λ x. (x - 1) % m) e)
same_phase_start m k c pm pk (inr (a, b, e)) =
    let x : k ≡ m * (k / m) = omega (arith, div-add-mod k m, b) in
    ((λ h. omega arith), (λ h. omega arith), ap (λ x. (x - 1) % m) e ∙ whole_phase m k (k / m) pm pk x)

-- the two lemmas for a segment, in the words of its contract
pub alike_refl : (s : Progress) → Alike s s
alike_refl (Still a) = refl
alike_refl (Once n p) = (refl, inl refl)
alike_refl (Again s n a p) = (refl, refl, refl, ((λ h. h), (λ h. h), refl))

pub moved_none : (s : Progress) (k : ℕ) → k ≡ 0 → Alike s (pulses k s)
moved_none s k e = subst (λ x. Alike s x) (sym (ap (λ j. pulses j s) e ∙ pulses_none s)) (alike_refl s)

pub moved_inside : (s : Waveform) (n m p k : ℕ) → 0 < p → p + k ≤ n → Alike (Again s n (Some m) (p + k)) (pulses k (Again s n (Some m) p))
moved_inside s n m p k a b = subst (λ x. Alike (Again s n (Some m) (p + k)) x) (sym (pulses_inside s n m p k a b)) (alike_refl (Again s n (Some m) (p + k)))

moved_start_at : (s : Waveform) (n m p k c : ℕ) → p % n ≡ 0 → SamePhase m c (suc k) → Alike (Again s m (Some m) c) (pulses (suc k) (Again s n (Some m) p))
moved_start_at s n m p k c a h = subst (λ x. Alike (Again s m (Some m) c) x) (sym (pulses_start s n m p k a)) (refl, refl, refl, h)

pub moved_start : (s : Waveform) (n m p k c : ℕ) → p % n ≡ 0 → 0 < m → 0 < k → ((k ≤ m) × (c ≡ k)) ⊎ ((m < k) × (k % m ≡ 0) × (c ≡ m)) → Alike (Again s m (Some m) c) (pulses k (Again s n (Some m) p))
moved_start s n m p zero c a pm pk h = absurd (omega arith)
moved_start s n m p (suc k) c a pm pk h = moved_start_at s n m p k c a (same_phase_start m (suc k) c pm (omega arith) h)

pub rate_high : (n p : ℕ) → 0 < p → p ≤ n → n ≢ 1 → not (nat_eq p n) ≡ wave Rate n p
rate_high n p a b d =
    let f : not (nat_eq p n) ≡ out_at Rate n (p - 1) = grind (arith, nat_tests) in
    f ∙ sym (wave_early Rate n p a b)

pub square_high : (n p : ℕ) → 0 < p → p ≤ n → nat_lt (p - 1) ((n + 1) / 2) ≡ wave Square n p
square_high n p a b =
    let f : nat_lt (p - 1) ((n + 1) / 2) ≡ out_at Square n (p - 1) = grind (arith, nat_tests) in
    f ∙ sym (wave_early Square n p a b)

pub not_start_pos : (n p : ℕ) → p % n ≢ 0 → 0 < p
not_start_pos n zero h = absurd (h (zero-mod n))
not_start_pos n (suc p) h = omega arith

-- inside a period the phase is the number itself
pub inside_at : (n p k : ℕ) → p ≤ n → p % n ≢ 0 → p % n + k ≤ n → p + k ≤ n
inside_at n p k a b c =
    elim (cases_lt p n) [
      | inl lt ↦ let x : p % n ≡ p = mod-eq_of_lt lt in omega arith
      | inr ge ↦ absurd (b (ap (λ x. x % n) (let y : p ≡ n = omega arith in y) ∙ mod_self n))
    ]

pub inside_moved : (s : Waveform) (n m p k : ℕ) → p ≤ n → p % n ≢ 0 → ((p % n ≢ 0) × (p % n + k ≤ n)) ⊎ ((p % n ≡ 0) × ((k ≤ m) ⊎ (k % m ≡ 0))) → Alike (Again s n (Some m) (p + k)) (pulses k (Again s n (Some m) p))
inside_moved s n m p k i a (inl h) = moved_inside s n m p k (not_start_pos n p a) (inside_at n p k i a h.1)
inside_moved s n m p k i a (inr h) = absurd (a h.0)

pub inside_still : (s : Waveform) (n m p k : ℕ) → p ≤ n → p % n ≢ 0 → ((p % n ≢ 0) × (p % n + k ≤ n)) ⊎ ((p % n ≡ 0) × ((k ≤ m) ⊎ (k % m ≡ 0))) → Rises k (Again s n (Some m) p) → ⊥
inside_still s n m p k i a (inl h) r = no_rise_inside s n m p k (not_start_pos n p a) (inside_at n p k i a h.1) r
inside_still s n m p k i a (inr h) r = absurd (a h.0)

pub start_moved : (s : Waveform) (n m p k c : ℕ) → p % n ≡ 0 → 0 < m → 0 < k → ((p % n ≢ 0) × (p % n + k ≤ n)) ⊎ ((p % n ≡ 0) × ((k ≤ m) ⊎ (k % m ≡ 0))) → ((k ≤ m) × (c ≡ k)) ⊎ ((m < k) × (c ≡ m)) → Alike (Again s m (Some m) c) (pulses k (Again s n (Some m) p))
start_moved s n m p k c a pm pk (inl h) d = absurd (h.0 a)
start_moved s n m p k c a pm pk (inr h) (inl d) = moved_start s n m p k c a pm pk (inl d)
start_moved s n m p k c a pm pk (inr h) (inr d) = moved_start s n m p k c a pm pk (inr (d.0, elim (h.1) [ inl few ↦ absurd (omega arith) | inr whole ↦ whole ], d.1))

pub start_rises : (s : Waveform) (n m p k : ℕ) → p % n ≡ 0 → 0 < m → 0 < k → (wave s n p ≡ false) ⊎ ((2 ≤ m) × (2 * m ≤ k)) → Rises k (Again s n (Some m) p)
start_rises s n m p k a pm pk (inl low) = rise_first s n m p k a pm pk low
start_rises s n m p k a pm pk (inr h) = rise_second s n m p k a h.0 h.1

pub start_only : (s : Waveform) (n m p k : ℕ) → p % n ≡ 0 → 0 < m → 0 < k → ((p % n ≢ 0) × (p % n + k ≤ n)) ⊎ ((p % n ≡ 0) × ((k ≤ m) ⊎ (k % m ≡ 0))) → Rises k (Again s n (Some m) p) → (wave s n p ≡ false) ⊎ ((2 ≤ m) × (2 * m ≤ k))
start_only s n m p k a pm pk (inl h) r = absurd (h.0 a)
start_only s n m p k a pm pk (inr h) r = rise_start_only s n m p k a pm h.1 r

-- where a period is over
pub inside_over : (s : Waveform) (n m p : ℕ) → 0 < p → p ≤ n → pulses (n - p) (Again s n (Some m) p) ≡ Again s n (Some m) n
inside_over s n m p a b =
    let x : p + (n - p) ≡ n = omega arith in
    pulses_inside s n m p (n - p) a (omega arith) ∙ ap (λ y. Again s n (Some m) y) x

pub whole_part : (m k : ℕ) → (k - k % m) % m ≡ 0
whole_part m k =
    let x : k - k % m ≡ m * (k / m) = omega (arith, div-add-mod k m) in
    ap (λ y. y % m) x ∙ mul-mod_right m (k / m)

-- what is left after whole periods is less than one
whole_rest_at : (s : Waveform) (n m p j r : ℕ) → p % n ≡ 0 → j % m ≡ 0 → r ≤ m → IsPartOf r (pulses j (Again s n (Some m) p))
whole_rest_at s n m p zero r a b c = subst (λ x. IsPartOf r x) (sym (pulses_none (Again s n (Some m) p))) (inr (a, inl c))
whole_rest_at s n m p (suc j) r a b c = subst (λ x. IsPartOf r x) (sym (pulses_start s n m p j a)) (inr (b, inl c))

pub whole_rest : (s : Waveform) (n m p k : ℕ) → 0 < m → p % n ≡ 0 → IsPartOf (k - (k - k % m)) (pulses (k - k % m) (Again s n (Some m) p))
whole_rest s n m p k pm a =
    let x : k % m < m = mod-lt k pm in
    whole_rest_at s n m p (k - k % m) (k - (k - k % m)) a (whole_part m k) (omega (arith, x))

pub within_start : (s : Waveform) (n m p c : ℕ) → p ≤ n → 0 < m → ((p % n ≡ 0) × (c ≡ m)) ⊎ ((p % n ≢ 0) × (c ≡ n - p)) → IsStartOf (pulses c (Again s n (Some m) p))
within_start s n m p zero le pm (inl (a, e)) = absurd (omega (arith, e))
within_start s n m p (suc c) le pm (inl (a, e)) = subst (λ x. IsStartOf x) (sym (pulses_start s n m p c a)) (ap (λ y. y % m) e ∙ mod_self m)
within_start s n m p c le pm (inr (a, e)) =
    subst (λ x. IsStartOf x) (sym (ap (λ j. pulses j (Again s n (Some m) p)) e ∙ inside_over s n m p (not_start_pos n p a) le)) (mod_self n)

pub fits_inside : (n m p k : ℕ) → p ≤ n → p % n ≢ 0 → ((p % n ≢ 0) × (p % n + k ≤ n)) ⊎ ((p % n ≡ 0) × ((k ≤ m) ⊎ (k % m ≡ 0))) → p + k ≤ n
fits_inside n m p k le a (inl h) = inside_at n p k le a h.1
fits_inside n m p k le a (inr h) = absurd (a h.0)

pub count_early : (s : Waveform) (n p : ℕ) (newer : Option ℕ) → 0 < p → p ≤ n → count_at s n (p - 1) ≡ count (Again s n newer p)
count_early s n p newer a b =
    let below : p - 1 < n = omega arith in
    let no : (p == 0) ≡ false = grind (arith, nat_tests) in
    sym (ap (λ t. if t then 0 else count_at s n ((p - 1) % n)) no ∙ ap (count_at s n) (mod-eq_of_lt below))
