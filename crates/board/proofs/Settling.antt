-- A state of the chips and its settled one are alike, alike states have one settled state, and no call tells them apart.
use Rattle.std.proofs.Common.{◌≡◌, ℕ, zero, suc, ◌+◌, ◌-◌, ◌%◌, ◌<◌, ◌==◌, Bool, true, false, Some, inl, inr, refl, sym, ap, ◌∙◌, arith}
use Rattle.std.specs.Prelude.{nat_lt, if◌then◌else◌}
use Rattle.std.proofs.lemmas.Bool.Decides.{nat_tests}
use Rattle.std.proofs.Math.Nat.{mod-mod}
use Rattle.pit8253.specs.declared.mode.Waveform.{Waveform}
use Rattle.pit8253.specs.declared.calls.Call.TheVariants as call
use Rattle.pit8253.specs.declared.calls.Reply.TheVariants.{Byte, Signal}
use Rattle.pit8253.specs.Progress.{Progress, Still, Once, Again, next_of}
use Rattle.pit8253.specs.Alike.{Alike, SamePhase, SameOnce, AlikeCounters, AlikeTimers}
use Rattle.pit8253.specs.Timer.{Counter, Timer, rose, timer_written, timer_read, timer_answer, timer_gated, timer_out, timer_pulses}
use Rattle.pit8253.specs.Calls.{NoCallTells}
use Rattle.board.specs.Inner.Settled.{settled_once, settled_phase, settled_progress, settled_counter, settled_timer}

-- ---- pulses

past_end : (n p : ℕ) → n < p → SameOnce n p (n + 1 + (p - (n + 1)) % 65536)
past_end n p lt = inr (lt, omega arith, omega arith)

once_alike_at : (t : Bool) (n p : ℕ) → nat_lt n p ≡ t → SameOnce n p (if t then n + 1 + (p - (n + 1)) % 65536 else p)
once_alike_at true n p e = let lt : n < p = grind (arith, nat_tests) in past_end n p lt
once_alike_at false n p e = inl refl

once_alike : (n p : ℕ) → SameOnce n p (settled_once n p)
once_alike n p = once_alike_at (nat_lt n p) n p refl

once_same : (n p r : ℕ) → SameOnce n p r → settled_once n p ≡ settled_once n r
once_same n p r (inl e) = ap (settled_once n) e
once_same n p r (inr (a, b, e)) =
    let x : nat_lt n p ≡ true = grind (arith, nat_tests) in
    let y : nat_lt n r ≡ true = grind (arith, nat_tests) in
    let z : (p - (n + 1)) % 65536 ≡ (r - (n + 1)) % 65536 = omega arith in
    ap (λ t. if t then n + 1 + (p - (n + 1)) % 65536 else p) x ∙ (ap (λ q. n + 1 + q) z ∙ sym (ap (λ t. if t then n + 1 + (r - (n + 1)) % 65536 else r) y))

phase_is : (n p : ℕ) → 0 < p → settled_phase n p ≡ (p - 1) % n + 1
phase_is n p lt = let x : (p == 0) ≡ false = grind (arith, nat_tests) in ap (λ t. if t then 0 else (p - 1) % n + 1) x

phase_alike : (n p : ℕ) → SamePhase n p (settled_phase n p)
phase_alike n zero = ((λ e. refl), (λ e. refl), refl)
phase_alike n (suc p) =
    let e = phase_is n (suc p) (omega arith) in
    let f : (suc p - 1) % n + 1 - 1 ≡ (suc p - 1) % n = omega arith in
    ((λ x. absurd (omega (arith, x))), (λ x. absurd (omega (arith, x, e))), sym (ap (λ z. (z - 1) % n) e ∙ (ap (λ z. z % n) f ∙ mod-mod (suc p - 1) n)))

phase_same : (n p r : ℕ) → SamePhase n p r → settled_phase n p ≡ settled_phase n r
phase_same n zero r h = ap (settled_phase n) (sym (h.0 refl))
phase_same n (suc p) zero h = absurd (let z : suc p ≡ 0 = h.1 refl in omega arith)
phase_same n (suc p) (suc r) h = phase_is n (suc p) (omega arith) ∙ (ap (λ z. z + 1) h.2 ∙ sym (phase_is n (suc r) (omega arith)))

progress_alike : (s : Progress) → Alike s (settled_progress s)
progress_alike (Still high) = refl
progress_alike (Once n p) = (refl, once_alike n p)
progress_alike (Again waveform n newer p) = (refl, refl, refl, phase_alike n p)

again_same : (s t : Waveform) (n m x y p r : ℕ) → s ≡ t → n ≡ m → x ≡ y → p ≡ r → Again s n (Some x) p ≡ Again t m (Some y) r
again_same s t n m x y p r a b c d = cc

progress_same : (a b : Progress) → Alike a b → settled_progress a ≡ settled_progress b
progress_same (Still a) (Still b) h = ap Still h
progress_same (Once n p) (Once m r) (e, h) = ap (Once n) (once_same n p r h) ∙ ap (λ k. Once k (settled_once k r)) e
progress_same (Again s n a p) (Again t m b r) (es, en, e, h) =
    again_same s t n m (next_of n a) (next_of m b) (settled_phase n p) (settled_phase m r) es en e (phase_same n p r h ∙ ap (λ k. settled_phase k r) en)
progress_same (Still a) (Once m r) h = absurd h
progress_same (Still a) (Again t m b r) h = absurd h
progress_same (Once n p) (Still b) h = absurd h
progress_same (Once n p) (Again t m b r) h = absurd h
progress_same (Again s n a p) (Still b) h = absurd h
progress_same (Again s n a p) (Once m r) h = absurd h

-- ---- channels

counter_alike : (s : Counter) → AlikeCounters s (settled_counter s)
counter_alike s = record { same_mode = refl; same_access = refl; same_progress = progress_alike s.progress; same_low = refl; same_gate = refl; same_latch = refl; same_high_next = refl }

-- a state differs from one alike in its progress alone
at_progress : (a b : Counter) → AlikeCounters a b → record a { progress = b.progress } ≡ b
at_progress a b h =
    ap (λ x. record a { progress = b.progress; mode = x }) h.same_mode
    ∙ (ap (λ x. record b { access = x; low = a.low; gate = a.gate; latch = a.latch; high_next = a.high_next }) h.same_access
    ∙ (ap (λ x. record b { low = x; gate = a.gate; latch = a.latch; high_next = a.high_next }) h.same_low
    ∙ (ap (λ x. record b { gate = x; latch = a.latch; high_next = a.high_next }) h.same_gate
    ∙ (ap (λ x. record b { latch = x; high_next = a.high_next }) h.same_latch
    ∙ ap (λ x. record b { high_next = x }) h.same_high_next))))

counter_same : (a b : Counter) → AlikeCounters a b → settled_counter a ≡ settled_counter b
counter_same a b h =
    ap (λ x. record a { progress = x }) (progress_same a.progress b.progress h.same_progress) ∙ ap settled_counter (at_progress a b h)

-- ---- the three channels

three : (a b c d e f : Counter) → a ≡ b → c ≡ d → e ≡ f → (let s : Timer = record { zero = a; one = c; two = e } in s) ≡ (let t : Timer = record { zero = b; one = d; two = f } in t)
three a b c d e f x y z = cc

pub timer_same : (a b : Timer) → AlikeTimers a b → settled_timer a ≡ settled_timer b
timer_same a b h = three _ _ _ _ _ _ (counter_same a.zero b.zero h.same_zero) (counter_same a.one b.one h.same_one) (counter_same a.two b.two h.same_two)

pub timer_alike : (t : Timer) → AlikeTimers t (settled_timer t)
timer_alike t = record { same_zero = counter_alike t.zero; same_one = counter_alike t.one; same_two = counter_alike t.two }

pub timer_settled : (t : Timer) → settled_timer t ≡ settled_timer (settled_timer t)
timer_settled t = timer_same t (settled_timer t) (timer_alike t)

-- ---- calls, by the law of alike timers

abbrev Times : (Timer → Timer) → Type 0
Times f = (t : Timer) → settled_timer (f t) ≡ settled_timer (f (settled_timer t))

times : (f : Timer → Timer) → ((a b : Timer) → AlikeTimers a b → AlikeTimers (f a) (f b)) → Times f
times f g t = timer_same (f t) (f (settled_timer t)) (g t (settled_timer t) (timer_alike t))

pub written_times : NoCallTells → (n v : ℕ) → Times (timer_written n v)
written_times law n v = times (timer_written n v) (law.kept (call.Write n v))

pub read_times : NoCallTells → (n : ℕ) → Times (timer_read n)
read_times law n = times (timer_read n) (law.kept (call.Read n))

pub gated_times : NoCallTells → (g : Bool) → Times (timer_gated g)
gated_times law g = times (timer_gated g) (law.kept (call.Gate g))

pub pulses_times : NoCallTells → (j : ℕ) → Times (timer_pulses j)
pulses_times law j = times (timer_pulses j) (law.kept (call.Pulse j))

same_byte : (m n : ℕ) → Byte m ≡ Byte n → m ≡ n
same_byte m n e = cc

same_level : (m n : Bool) → Signal m ≡ Signal n → m ≡ n
same_level m n e = cc

pub out_same : NoCallTells → (n : ℕ) (t : Timer) → timer_out n t ≡ timer_out n (settled_timer t)
out_same law n t = same_level _ _ (law.same_reply (call.Out n) t (settled_timer t) (timer_alike t))

pub answer_same : NoCallTells → (n : ℕ) (t : Timer) → timer_answer n t ≡ timer_answer n (settled_timer t)
answer_same law n t = same_byte _ _ (law.same_reply (call.Read n) t (settled_timer t) (timer_alike t))

pub rose_settled : NoCallTells → (j : ℕ) (t : Timer) → rose j t.zero ≡ rose j (settled_counter t.zero)
rose_settled law j t = same_level _ _ (law.same_reply (call.Pulse j) t (settled_timer t) (timer_alike t))
