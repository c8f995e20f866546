-- No call tells alike timers apart.
use Rattle.std.proofs.Common.{◌≡◌, ℕ, zero, suc, ◌/◌, ◌==◌, Bool, true, false, cond, refl, ap, ◌∙◌}
use Rattle.std.specs.Prelude.{not, ◌&&◌, ◌||◌}
use Rattle.pit8253.specs.declared.calls.Call.{Call}
use Rattle.pit8253.specs.declared.calls.Call.TheVariants.{Write, Read, Gate, Pulse, Out}
use Rattle.pit8253.specs.declared.calls.Reply.TheVariants.{Byte, Signal}
use Rattle.pit8253.specs.Timer.{Counter, Timer, written, read, command, pulses, out, rose, on}
use Rattle.pit8253.specs.Alike.{AlikeCounters, AlikeTimers}
use Rattle.pit8253.specs.Calls.{after_one, reply_of}
use Rattle.pit8253.proofs.Compose.{alike_pulses, alike_out, alike_counters_sym, alike_counters_trans}
use Rattle.pit8253.proofs.EachCall.{alike_written, alike_read, alike_gated, alike_command, alike_answer}

pub timers_sym : (a b : Timer) → AlikeTimers a b → AlikeTimers b a
timers_sym a b h = record {
  same_zero = alike_counters_sym a.zero b.zero h.same_zero;
  same_one = alike_counters_sym a.one b.one h.same_one;
  same_two = alike_counters_sym a.two b.two h.same_two;
}

pub timers_trans : (a b c : Timer) → AlikeTimers a b → AlikeTimers b c → AlikeTimers a c
timers_trans a b c h g = record {
  same_zero = alike_counters_trans a.zero b.zero c.zero h.same_zero g.same_zero;
  same_one = alike_counters_trans a.one b.one c.one h.same_one g.same_one;
  same_two = alike_counters_trans a.two b.two c.two h.same_two g.same_two;
}

-- alike in either case
either : (t : Bool) (x y z u : Timer) → AlikeTimers x z → AlikeTimers y u → AlikeTimers (cond t x y) (cond t z u)
either true x y z u e g = e
either false x y z u e g = g

on_keeps : (n : ℕ) (f : Counter → Counter) → ((a b : Counter) → AlikeCounters a b → AlikeCounters (f a) (f b)) → (a b : Timer) → AlikeTimers a b → AlikeTimers (on n f a) (on n f b)
on_keeps n f g a b h =
    either (n == 0) _ _ _ _ (record { same_zero = g a.zero b.zero h.same_zero; same_one = h.same_one; same_two = h.same_two })
    (either (n == 1) _ _ _ _ (record { same_zero = h.same_zero; same_one = g a.one b.one h.same_one; same_two = h.same_two })
    (either (n == 2) _ _ _ _ (record { same_zero = h.same_zero; same_one = h.same_one; same_two = g a.two b.two h.same_two }) h))

pub call_keeps : (x : Call) (a b : Timer) → AlikeTimers a b → AlikeTimers (after_one x a) (after_one x b)
call_keeps (Write n v) a b h = either (n == 3) _ _ _ _ (on_keeps (v / 64) (command v) (alike_command v) a b h) (on_keeps n (written v) (alike_written v) a b h)
call_keeps (Read n) a b h = on_keeps n read alike_read a b h
call_keeps (Gate g) a b h = record { same_zero = h.same_zero; same_one = h.same_one; same_two = alike_gated g a.two b.two h.same_two }
call_keeps (Pulse k) a b h = record {
  same_zero = alike_pulses k a.zero b.zero h.same_zero;
  same_one = alike_pulses k a.one b.one h.same_one;
  same_two = alike_pulses k a.two b.two h.same_two;
}
call_keeps (Out n) a b h = h

rose_same : (k : ℕ) (a b : Counter) → AlikeCounters a b → rose k a ≡ rose k b
unfolding rose
rose_same zero a b h = refl
rose_same (suc k) a b h =
    let x = rose_same k a b h in
    let y = alike_out (pulses k a) (pulses k b) (alike_pulses k a b h) in
    let z = alike_out (pulses (suc k) a) (pulses (suc k) b) (alike_pulses (suc k) a b h) in
    ap (λ t. t || (not (out (pulses k a)) && out (pulses (suc k) a))) x
    ∙ (ap (λ t. rose k b || (not t && out (pulses (suc k) a))) y ∙ ap (λ t. rose k b || (not (out (pulses k b)) && t)) z)

-- equal in either case
same_choice : {B : Type 0} (t : Bool) (x y z u : B) → x ≡ z → y ≡ u → cond t x y ≡ cond t z u
same_choice true x y z u e g = e
same_choice false x y z u e g = g

pub call_answers : (x : Call) (a b : Timer) → AlikeTimers a b → reply_of x a ≡ reply_of x b
call_answers (Write n v) a b h = refl
call_answers (Read n) a b h =
    ap Byte
    (same_choice (n == 0) _ _ _ _ (alike_answer a.zero b.zero h.same_zero)
    (same_choice (n == 1) _ _ _ _ (alike_answer a.one b.one h.same_one)
    (same_choice (n == 2) _ _ _ _ (alike_answer a.two b.two h.same_two) refl)))
call_answers (Gate g) a b h = refl
call_answers (Pulse k) a b h = ap Signal (rose_same k a.zero b.zero h.same_zero)
call_answers (Out n) a b h =
    ap Signal
    (same_choice (n == 0) _ _ _ _ (alike_out a.zero b.zero h.same_zero)
    (same_choice (n == 1) _ _ _ _ (alike_out a.one b.one h.same_one)
    (same_choice (n == 2) _ _ _ _ (alike_out a.two b.two h.same_two) refl)))
