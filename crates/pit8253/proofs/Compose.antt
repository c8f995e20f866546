-- Pulses one after another.
use Rattle.std.proofs.lemmas.Bool.{cases_lt}
use Rattle.std.proofs.Common.{mod-lt, ◌<◌, ◌%◌, ◌≡◌, ℕ, zero, suc, ◌+◌, ◌-◌, ◌≤◌, Bool, true, false, not, ◌||◌, ◌&&◌, ◌⊎◌, sym, ap, ◌∙◌, subst, inl, inr, arith, add-zero, MatchBool}
use Rattle.std.specs.Prelude.{is_some}
use Rattle.pit8253.specs.Progress.{Progress, is_high}
use Rattle.pit8253.specs.Alike.{Alike, AlikeCounters}
use Rattle.pit8253.specs.Timer.{Counter, is_counting, is_periodic, is_terminal, moved, pulse, pulses, out}
use Rattle.pit8253.proofs.Congruence.{alike_one, alike_high, alike_trans, alike_sym, start_same, part_same}
use Rattle.pit8253.specs.declared.element.Element.{Element}
use Rattle.pit8253.specs.declared.element.Element.TheVariants as code
use Rattle.pit8253.specs.declared.channel.Channel.{Channel}
use Rattle.pit8253.specs.Channel.{IsPart, IsPartOf, shown, Rises}
use Rattle.pit8253.specs.Inner.Segment.{IsStart}
use Rattle.pit8253.specs.Element.{element_view}

moved_alike : (b : Bool) (m n : Progress) → Alike m n → Alike (moved b m) (moved b n)
moved_alike true m n h = alike_one m n h
moved_alike false m n h = h

counting_same : (a b : Counter) → AlikeCounters a b → is_counting a ≡ is_counting b
counting_same a b h =
    ap (λ x. x && not (is_terminal a.mode && is_some a.low)) h.same_gate
    ∙ (ap (λ x. b.gate && not (is_terminal x && is_some a.low)) h.same_mode ∙ ap (λ x. b.gate && not (is_terminal b.mode && is_some x)) h.same_low)

pub alike_pulse : (a b : Counter) → AlikeCounters a b → AlikeCounters (pulse a) (pulse b)
alike_pulse a b h = record {
  same_mode = h.same_mode;
  same_access = h.same_access;
  same_progress = subst (λ x. Alike (moved (is_counting a) a.progress) (moved x b.progress)) (counting_same a b h) (moved_alike (is_counting a) a.progress b.progress h.same_progress);
  same_low = h.same_low;
  same_gate = h.same_gate;
  same_latch = h.same_latch;
  same_high_next = h.same_high_next;
}

pub alike_pulses : (k : ℕ) (a b : Counter) → AlikeCounters a b → AlikeCounters (pulses k a) (pulses k b)
unfolding pulses
alike_pulses zero a b h = h
alike_pulses (suc k) a b h = alike_pulse (pulses k a) (pulses k b) (alike_pulses k a b h)

pub alike_out : (a b : Counter) → AlikeCounters a b → out a ≡ out b
alike_out a b h =
    ap (λ x. (is_periodic x && not a.gate) || is_high a.progress) h.same_mode
    ∙ (ap (λ x. (is_periodic b.mode && not x) || is_high a.progress) h.same_gate ∙ ap (λ x. (is_periodic b.mode && not b.gate) || x) (alike_high a.progress b.progress h.same_progress))

pub alike_rises : (k : ℕ) (a b : Counter) → AlikeCounters a b → Rises k a → Rises k b
alike_rises k a b h (i, below, low, high) = (
  i,
  below,
  sym (alike_out (pulses i a) (pulses i b) (alike_pulses i a b h)) ∙ low,
  sym (alike_out (pulses (suc i) a) (pulses (suc i) b) (alike_pulses (suc i) a b h)) ∙ high,
)

pub pulses_add : (j k : ℕ) (s : Counter) → pulses (j + k) s ≡ pulses k (pulses j s)
unfolding pulses
pulses_add j zero s = ap (λ x. pulses x s) (add-zero j)
pulses_add j (suc k) s =
    let x : j + suc k ≡ suc (j + k) = omega arith in
    ap (λ x. pulses x s) x ∙ ap pulse (pulses_add j k s)

pub rises_earlier : (j k : ℕ) (s : Counter) → j ≤ k → Rises j s → Rises k s
rises_earlier j k s a (i, below, low, high) = (i, omega arith, low, high)

pub rises_later : (j k : ℕ) (s : Counter) → Rises k (pulses j s) → Rises (j + k) s
rises_later j k s (i, below, low, high) =
    let x : j + suc i ≡ suc (j + i) = omega arith in
    (j + i, omega arith, ap out (pulses_add j i s) ∙ low, ap (λ y. out (pulses y s)) (sym x) ∙ (ap out (pulses_add j (suc i) s) ∙ high))

pub rises_split : (j k : ℕ) (s : Counter) → Rises (j + k) s → Rises j s ⊎ Rises k (pulses j s)
rises_split j k s (i, below, low, high) =
    elim (cases_lt i j) [
      | inl lt ↦ inl (i, lt, low, high)
      | inr ge ↦
          let x : i ≡ j + (i - j) = omega arith in
          let y : suc i ≡ j + suc (i - j) = omega arith in
          inr (
            i - j,
            omega arith,
            sym (ap out (pulses_add j (i - j) s)) ∙ (ap (λ z. out (pulses z s)) (sym x) ∙ low),
            sym (ap out (pulses_add j (suc (i - j)) s)) ∙ (ap (λ z. out (pulses z s)) (sym y) ∙ high),
          )
    ]

pub alike_counters_trans : (a b c : Counter) → AlikeCounters a b → AlikeCounters b c → AlikeCounters a c
alike_counters_trans a b c h g = record {
  same_mode = h.same_mode ∙ g.same_mode;
  same_access = h.same_access ∙ g.same_access;
  same_progress = alike_trans a.progress b.progress c.progress h.same_progress g.same_progress;
  same_low = h.same_low ∙ g.same_low;
  same_gate = h.same_gate ∙ g.same_gate;
  same_latch = h.same_latch ∙ g.same_latch;
  same_high_next = h.same_high_next ∙ g.same_high_next;
}

pub alike_counters_sym : (a b : Counter) → AlikeCounters a b → AlikeCounters b a
alike_counters_sym a b h = record {
  same_mode = sym h.same_mode;
  same_access = sym h.same_access;
  same_progress = alike_sym a.progress b.progress h.same_progress;
  same_low = sym h.same_low;
  same_gate = sym h.same_gate;
  same_latch = sym h.same_latch;
  same_high_next = sym h.same_high_next;
}

pub start_moved_on : (a b : Counter) → AlikeCounters a b → IsStart b → IsStart a
start_moved_on a b h f = λ x. start_same a.progress b.progress h.same_progress (f (sym (counting_same a b h) ∙ x))

pub part_moved_on : (k : ℕ) (a b : Counter) → AlikeCounters a b → IsPart k b → IsPart k a
part_moved_on k a b h f = λ x. part_same k a.progress b.progress h.same_progress (f (sym (counting_same a b h) ∙ x))

-- two runs of pulses, one after another: the state
pub then_moved : (j k : ℕ) (a b c : Counter) → AlikeCounters b (pulses j a) → AlikeCounters c (pulses k b) → AlikeCounters c (pulses (j + k) a)
then_moved j k a b c h g = subst (λ x. AlikeCounters c x) (sym (pulses_add j k a)) (alike_counters_trans c (pulses k b) (pulses k (pulses j a)) g (alike_pulses k b (pulses j a) h))

-- and OUT
pub then_rose : (j k : ℕ) (a b : Counter) → AlikeCounters b (pulses j a) → Rises k b → Rises (j + k) a
then_rose j k a b h r = rises_later j k a (alike_rises k b (pulses j a) h r)

pub then_still : (j k : ℕ) (a b : Counter) → AlikeCounters b (pulses j a) → ¬ Rises j a → ¬ Rises k b → ¬ Rises (j + k) a
then_still j k a b h f g = λ r. elim (rises_split j k a r) [ inl x ↦ f x | inr y ↦ g (alike_rises k (pulses j a) b (alike_counters_sym b (pulses j a) h) y) ]

pub then_match : (x y : Bool) (j k : ℕ) (a b : Counter) → AlikeCounters b (pulses j a) → MatchBool x (Rises j a) (¬ Rises j a) → MatchBool y (Rises k b) (¬ Rises k b) → MatchBool (x || y) (Rises (j + k) a) (¬ Rises (j + k) a)
then_match true y j k a b h f g = rises_earlier j (j + k) a (omega arith) f
then_match false true j k a b h f g = then_rose j k a b h g
then_match false false j k a b h f g = then_still j k a b h f g

-- a single pulse stays within the running period, or begins the next one
part_one_of : (e : Element) → IsPartOf 1 (element_view e)
part_one_of (code.Still high) = tt
part_one_of (code.Once c) = tt
part_one_of (code.Again c) =
    elim (cases_lt 0 (c.pulses % c.period)) [
      | inl inside ↦
          let below : c.pulses % c.period < c.period = mod-lt c.pulses c.period_fits.0 in
          inl ((λ e. omega arith), omega arith)
      | inr over ↦
          let some : 1 ≤ c.next = omega (arith, c.next_fits.0) in
          inr (omega arith, inl some)
    ]

pub part_one : (c : Channel) → IsPart 1 (shown c)
part_one c = λ h. part_one_of c.element
