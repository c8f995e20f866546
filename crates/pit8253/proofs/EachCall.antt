-- Each call keeps alike chips alike, and answers the same.
use Rattle.std.proofs.Common.{◌≡◌, ℕ, zero, suc, ◌+◌, ◌-◌, ◌*◌, ◌/◌, ◌%◌, ◌<◌, Bool, true, false, not, ◌&&◌, refl, sym, ap, ◌∙◌, subst, inl, inr, arith, MatchBool}
use Rattle.std.proofs.Math.Nat.{add-mod-mod, zero-mod}
use Rattle.std.proofs.lemmas.Nat.{mul-mod_second}
use Rattle.std.specs.Prelude.{◌==◌, Option, Some, None, if◌then◌else◌}
use Rattle.std.proofs.lemmas.Bool.Decides.{nat_tests}
use Rattle.pit8253.specs.declared.mode.Waveform.{Waveform}
use Rattle.pit8253.specs.declared.mode.Mode.{Mode}
use Rattle.pit8253.specs.declared.mode.Mode.TheVariants.{Unset, TerminalCount, Periodic}
use Rattle.pit8253.specs.declared.mode.Access.{Access}
use Rattle.pit8253.specs.declared.mode.Access.TheVariants.{Low, High, Both}
use Rattle.pit8253.specs.Progress.{Progress, Still, Once, Again, next_of, count, count_at}
use Rattle.pit8253.specs.Alike.{Alike, SamePhase, SameOnce, AlikeCounters, AlikeTimers}
use Rattle.pit8253.specs.Timer.{Counter, Timer, Latched, loaded, load, full, written, written_in, written_by, gated, restarted, latched, latch_from, reads_of, value_of, byte_of, answer, read, command, set_by, set_to, mode_of, access_of, on}
use Rattle.pit8253.proofs.Lift.{alike_counters_refl}
use Rattle.pit8253.specs.Timer.{pulses, timer_written}
use Rattle.pit8253.specs.Channel.{Rises}
use Rattle.pit8253.proofs.Compose.{alike_counters_trans, alike_counters_sym, alike_pulses, alike_rises}

-- a state differs from one alike in its progress alone
pub at_progress : (a b : Counter) → AlikeCounters a b → record a { progress = b.progress } ≡ b
at_progress a b h =
    ap (λ x. record a { progress = b.progress; mode = x }) h.same_mode
    ∙ (ap (λ x. record b { access = x; low = a.low; gate = a.gate; latch = a.latch; high_next = a.high_next }) h.same_access
    ∙ (ap (λ x. record b { low = x; gate = a.gate; latch = a.latch; high_next = a.high_next }) h.same_low
    ∙ (ap (λ x. record b { gate = x; latch = a.latch; high_next = a.high_next }) h.same_gate
    ∙ (ap (λ x. record b { latch = x; high_next = a.high_next }) h.same_latch
    ∙ ap (λ x. record b { high_next = x }) h.same_high_next))))

pub by_progress : (f : Counter → Counter) → ((a : Counter) (m : Progress) → Alike a.progress m → AlikeCounters (f a) (f (record a { progress = m }))) → (a b : Counter) → AlikeCounters a b → AlikeCounters (f a) (f b)
by_progress f g a b h = subst (λ x. AlikeCounters (f a) (f x)) (at_progress a b h) (g a b.progress h.same_progress)

pub number_by_progress : (f : Counter → ℕ) → ((a : Counter) (m : Progress) → Alike a.progress m → f a ≡ f (record a { progress = m })) → (a b : Counter) → AlikeCounters a b → f a ≡ f b
number_by_progress f g a b h = g a b.progress h.same_progress ∙ ap f (at_progress a b h)

zero_test : (n p r : ℕ) → SamePhase n p r → (p == 0) ≡ (r == 0)
zero_test n zero r h = ap (λ x. x == 0) (sym (h.0 refl))
zero_test n (suc p) zero h = absurd (let z : suc p ≡ 0 = h.1 refl in omega arith)
zero_test n (suc p) (suc r) h = grind (arith, nat_tests)

-- the count
once_value : (n x y : ℕ) → x % 65536 ≡ y % 65536 → (n + 65535 * x) % 65536 ≡ (n + 65535 * y) % 65536
once_value n x y e =
    sym (add-mod-mod n (65535 * x) 65536)
    ∙ (ap (λ z. (n + z) % 65536) (sym (mul-mod_second 65535 x 65536) ∙ (ap (λ z. (65535 * z) % 65536) e ∙ mul-mod_second 65535 y 65536))
    ∙ add-mod-mod n (65535 * y) 65536)

once_count : (n p r : ℕ) → SameOnce n p r → count (Once n p) ≡ count (Once n r)
once_count n p r (inl e) = ap (λ x. count (Once n x)) e
once_count n p r (inr (a, b, e)) =
    let no : (p == 0) ≡ false = grind (arith, nat_tests) in
    let nor : (r == 0) ≡ false = grind (arith, nat_tests) in
    ap (λ t. if t then 0 else (n + 65535 * (p - 1)) % 65536) no
    ∙ (once_value n (p - 1) (r - 1) e ∙ sym (ap (λ t. if t then 0 else (n + 65535 * (r - 1)) % 65536) nor))

pub count_same : (a b : Progress) → Alike a b → count a ≡ count b
count_same (Still a) (Still b) h = refl
count_same (Once n p) (Once m r) (e, h) = once_count n p r h ∙ ap (λ x. count (Once x r)) e
count_same (Again s n a p) (Again t m b r) (es, en, e, h) =
    ap (λ t. if t then 0 else count_at s n ((p - 1) % n)) (zero_test n p r h)
    ∙ (ap (λ x. if r == 0 then 0 else count_at s n x) h.2
    ∙ (ap (λ x. if r == 0 then 0 else count_at x n ((r - 1) % n)) es ∙ ap (λ x. if r == 0 then 0 else count_at t x ((r - 1) % x)) en))
count_same (Still a) (Once m r) h = absurd h
count_same (Still a) (Again t m b r) h = absurd h
count_same (Once n p) (Still b) h = absurd h
count_same (Once n p) (Again t m b r) h = absurd h
count_same (Again s n a p) (Still b) h = absurd h
count_same (Again s n a p) (Once m r) h = absurd h

-- a whole count
fresh : (waveform : Waveform) (n : ℕ) → Alike (Again waveform n None 0) (Again waveform n None 0)
fresh waveform n = (refl, refl, refl, ((λ h. h), (λ h. h), refl))

load_again : (x : Bool) (waveform t u : Waveform) (n k l p r : ℕ) → t ≡ u → k ≡ l → SamePhase k p r →
    Alike (if x then Again waveform n None 0 else Again t k (Some n) p) (if x then Again waveform n None 0 else Again u l (Some n) r)
load_again true waveform t u n k l p r a b h = fresh waveform n
load_again false waveform t u n k l p r a b h = (a, b, refl, h)

loaded_periodic : (waveform : Waveform) (n : ℕ) (a b : Progress) → Alike a b → Alike (loaded (Periodic waveform) n a) (loaded (Periodic waveform) n b)
loaded_periodic waveform n (Still a) (Still b) h = fresh waveform n
loaded_periodic waveform n (Once k p) (Once m r) h = fresh waveform n
loaded_periodic waveform n (Again t k a p) (Again u l b r) (es, en, e, h) =
    subst (λ x. Alike (if p == 0 then Again waveform n None 0 else Again t k (Some n) p) (if x then Again waveform n None 0 else Again u l (Some n) r)) (zero_test k p r h)
    (load_again (p == 0) waveform t u n k l p r es en h)
loaded_periodic waveform n (Still a) (Once m r) h = absurd h
loaded_periodic waveform n (Still a) (Again t m b r) h = absurd h
loaded_periodic waveform n (Once k p) (Still b) h = absurd h
loaded_periodic waveform n (Once k p) (Again t m b r) h = absurd h
loaded_periodic waveform n (Again t k a p) (Still b) h = absurd h
loaded_periodic waveform n (Again t k a p) (Once m r) h = absurd h

pub loaded_same : (mode : Mode) (n : ℕ) (a b : Progress) → Alike a b → Alike (loaded mode n a) (loaded mode n b)
loaded_same Unset n a b h = h
loaded_same TerminalCount n a b h = (refl, inl refl)
loaded_same (Periodic waveform) n a b h = loaded_periodic waveform n a b h

restarted_same : (a b : Progress) → Alike a b → Alike (restarted a) (restarted b)
restarted_same (Still a) (Still b) h = h
restarted_same (Once n p) (Once m r) h = h
restarted_same (Again s n a p) (Again t m b r) (es, en, e, h) = (es, e, e, ((λ h. h), (λ h. h), zero-mod (next_of n a) ∙ sym (zero-mod (next_of n a))))
restarted_same (Still a) (Once m r) h = absurd h
restarted_same (Still a) (Again t m b r) h = absurd h
restarted_same (Once n p) (Still b) h = absurd h
restarted_same (Once n p) (Again t m b r) h = absurd h
restarted_same (Again s n a p) (Still b) h = absurd h
restarted_same (Again s n a p) (Once m r) h = absurd h

of_progress : (a : Counter) (m : Progress) → Alike a.progress m → AlikeCounters a (record a { progress = m })
of_progress a m h = record { same_mode = refl; same_access = refl; same_progress = h; same_low = refl; same_gate = refl; same_latch = refl; same_high_next = refl }

load_same : (c : ℕ) (a : Counter) (m : Progress) → Alike a.progress m → AlikeCounters (load c a) (load c (record a { progress = m }))
load_same c a m h = of_progress (load c a) (loaded a.mode (full c) m) (loaded_same a.mode (full c) a.progress m h)

written_by_same : (x : Access) (l : Option ℕ) (v : ℕ) (a : Counter) (m : Progress) → Alike a.progress m → AlikeCounters (written_by x l v a) (written_by x l v (record a { progress = m }))
written_by_same Low l v a m h = load_same v a m h
written_by_same High l v a m h = load_same (256 * v) a m h
written_by_same Both None v a m h = of_progress (record a { low = Some v }) m h
written_by_same Both (Some l) v a m h = load_same (l + 256 * v) a m h

written_in_same : (x : Mode) (v : ℕ) (a : Counter) (m : Progress) → Alike a.progress m → AlikeCounters (written_in x v a) (written_in x v (record a { progress = m }))
written_in_same Unset v a m h = of_progress a m h
written_in_same TerminalCount v a m h = written_by_same a.access a.low v a m h
written_in_same (Periodic waveform) v a m h = written_by_same a.access a.low v a m h

pub alike_written : (v : ℕ) (a b : Counter) → AlikeCounters a b → AlikeCounters (written v a) (written v b)
alike_written v = by_progress (written v) (λ a m h. written_in_same a.mode v a m h)

gate_progress : (x : Bool) (a b : Progress) → Alike a b → Alike (if x then restarted a else a) (if x then restarted b else b)
gate_progress true a b h = restarted_same a b h
gate_progress false a b h = h

pub alike_gated : (g : Bool) (a b : Counter) → AlikeCounters a b → AlikeCounters (gated g a) (gated g b)
alike_gated g = by_progress (gated g) (λ a m h. of_progress (gated g a) (if g && not a.gate then restarted m else m) (gate_progress (g && not a.gate) a.progress m h))

latch_same : (l : Option Latched) (a : Counter) (m : Progress) → Alike a.progress m → AlikeCounters (latch_from l a) (latch_from l (record a { progress = m }))
latch_same None a m h = record { same_mode = refl; same_access = refl; same_progress = h; same_low = refl; same_gate = refl; same_latch = ap (λ x. Some (record { value = x % 65536; reads = reads_of a.access })) (count_same a.progress m h); same_high_next = refl }
latch_same (Some l) a m h = of_progress a m h

set_by_same : (o : Option Mode) (x : Access) (a : Counter) (m : Progress) → Alike a.progress m → AlikeCounters (set_by o x a) (set_by o x (record a { progress = m }))
set_by_same None x a m h = of_progress a m h
set_by_same (Some mode) x a m h = alike_counters_refl (set_to mode x a)

command_same : (t : Bool) (o : Option Mode) (x : Access) (a : Counter) (m : Progress) → Alike a.progress m →
    AlikeCounters (if t then latched a else set_by o x a) (if t then latched (record a { progress = m }) else set_by o x (record a { progress = m }))
command_same true o x a m h = latch_same a.latch a m h
command_same false o x a m h = set_by_same o x a m h

pub alike_command : (v : ℕ) (a b : Counter) → AlikeCounters a b → AlikeCounters (command v a) (command v b)
alike_command v = by_progress (command v) (λ a m h. command_same (v / 16 % 4 == 0) (mode_of (v % 16)) (access_of (v / 16 % 4)) a m h)

pub alike_read : (a b : Counter) → AlikeCounters a b → AlikeCounters (read a) (read b)
alike_read = by_progress read (λ a m h. of_progress (read a) m h)

value_same : (l : Option Latched) (a : Counter) (m : Progress) → Alike a.progress m → value_of l a ≡ value_of l (record a { progress = m })
value_same None a m h = ap (λ x. x % 65536) (count_same a.progress m h)
value_same (Some l) a m h = refl

pub alike_answer : (a b : Counter) → AlikeCounters a b → answer a ≡ answer b
alike_answer = number_by_progress answer (λ a m h. ap (byte_of a.access a.high_next) (value_same a.latch a m h))

-- calls on one channel of three
pub at_zero : (f : Counter → Counter) → ((a b : Counter) → AlikeCounters a b → AlikeCounters (f a) (f b)) → (a : Timer) (z : Counter) (c : Timer) → AlikeCounters z (f a.zero) → AlikeTimers a c → AlikeTimers (record a { zero = z }) (record c { zero = f c.zero })
at_zero f g a z c h k = record { same_zero = alike_counters_trans z (f a.zero) (f c.zero) h (g a.zero c.zero k.same_zero); same_one = k.same_one; same_two = k.same_two }

pub at_one : (f : Counter → Counter) → ((a b : Counter) → AlikeCounters a b → AlikeCounters (f a) (f b)) → (a : Timer) (z : Counter) (c : Timer) → AlikeCounters z (f a.one) → AlikeTimers a c → AlikeTimers (record a { one = z }) (record c { one = f c.one })
at_one f g a z c h k = record { same_zero = k.same_zero; same_one = alike_counters_trans z (f a.one) (f c.one) h (g a.one c.one k.same_one); same_two = k.same_two }

pub at_two : (f : Counter → Counter) → ((a b : Counter) → AlikeCounters a b → AlikeCounters (f a) (f b)) → (a : Timer) (z : Counter) (c : Timer) → AlikeCounters z (f a.two) → AlikeTimers a c → AlikeTimers (record a { two = z }) (record c { two = f c.two })
at_two f g a z c h k = record { same_zero = k.same_zero; same_one = k.same_one; same_two = alike_counters_trans z (f a.two) (f c.two) h (g a.two c.two k.same_two) }

pub pulses_zero_on : (k : ℕ) (z a c : Counter) → AlikeCounters z (pulses k a) → AlikeCounters a c → AlikeCounters z (pulses k c)
pulses_zero_on k z a c h g = alike_counters_trans z (pulses k a) (pulses k c) h (alike_pulses k a c g)

pub match_on : (x : Bool) (k : ℕ) (a c : Counter) → AlikeCounters a c → MatchBool x (Rises k a) (¬ Rises k a) → MatchBool x (Rises k c) (¬ Rises k c)
match_on true k a c h r = alike_rises k a c h r
match_on false k a c h r = λ x. r (alike_rises k c a (alike_counters_sym a c h) x)

pub written_zero : (v : ℕ) (a : Timer) (z : Counter) (c : Timer) → AlikeCounters z (written v a.zero) → AlikeTimers a c → AlikeTimers (record a { zero = z }) (timer_written 0 v c)
written_zero v a z c h k = at_zero (written v) (alike_written v) a z c h k

pub written_one : (v : ℕ) (a : Timer) (z : Counter) (c : Timer) → AlikeCounters z (written v a.one) → AlikeTimers a c → AlikeTimers (record a { one = z }) (timer_written 1 v c)
written_one v a z c h k = at_one (written v) (alike_written v) a z c h k

pub written_two : (v : ℕ) (a : Timer) (z : Counter) (c : Timer) → AlikeCounters z (written v a.two) → AlikeTimers a c → AlikeTimers (record a { two = z }) (timer_written 2 v c)
written_two v a z c h k = at_two (written v) (alike_written v) a z c h k

-- a number past the channels changes nothing
pub on_none : (n : ℕ) (f : Counter → Counter) (c : Timer) → 2 < n → on n f c ≡ c
on_none n f c h =
    let a : (n == 0) ≡ false = grind (arith, nat_tests) in
    let b : (n == 1) ≡ false = grind (arith, nat_tests) in
    let d : (n == 2) ≡ false = grind (arith, nat_tests) in
    ap (λ t. if t then record c { zero = f c.zero } else if n == 1 then record c { one = f c.one } else if n == 2 then record c { two = f c.two } else c) a
    ∙ (ap (λ t. if t then record c { one = f c.one } else if n == 2 then record c { two = f c.two } else c) b
    ∙ ap (λ t. if t then record c { two = f c.two } else c) d)

pub on_none_alike : (n : ℕ) (f : Counter → Counter) (a c : Timer) → 2 < n → AlikeTimers a c → AlikeTimers a (on n f c)
on_none_alike n f a c h g = subst (λ x. AlikeTimers a x) (sym (on_none n f c h)) g

pub written_none : (n v : ℕ) (a c : Timer) → 3 < n → AlikeTimers a c → AlikeTimers a (timer_written n v c)
written_none n v a c h g =
    let no : (n == 3) ≡ false = grind (arith, nat_tests) in
    subst (λ t. AlikeTimers a (if t then on (v / 64) (command v) c else on n (written v) c)) (sym no) (on_none_alike n (written v) a c (omega arith) g)
