-- A list of calls, one after another: what each answers, and what they leave.
use Rattle.std.specs.Prelude.{◌≡◌, List, [], ◌∷◌}
use Rattle.pit8253.specs.declared.calls.Call.{Call}
use Rattle.pit8253.specs.declared.calls.Call.TheVariants.{Write, Read, Gate, Pulse, Out}
use Rattle.pit8253.specs.declared.calls.Reply.{Reply}
use Rattle.pit8253.specs.declared.calls.Reply.TheVariants.{Done, Byte, Signal}
use Rattle.pit8253.specs.Timer.{Timer, timer_written, timer_read, timer_answer, timer_gated, timer_pulses, timer_out, rose}
use Rattle.pit8253.specs.Alike.{AlikeTimers}

-- the timer after one call
abbrev pub after_one : Call → Timer → Timer
after_one (Write n v) c = timer_written n v c
after_one (Read n) c = timer_read n c
after_one (Gate g) c = timer_gated g c
after_one (Pulse k) c = timer_pulses k c
after_one (Out n) c = c

-- what one call answers
abbrev pub reply_of : Call → Timer → Reply
reply_of (Write n v) c = Done
reply_of (Read n) c = Byte (timer_answer n c)
reply_of (Gate g) c = Done
reply_of (Pulse k) c = Signal (rose k c.zero)
reply_of (Out n) c = Signal (timer_out n c)

-- what a list of calls answers, call by call
abbrev pub replies_of : List Call → Timer → List Reply
replies_of [] c = []
replies_of (x ∷ xs) c = reply_of x c ∷ replies_of xs (after_one x c)

-- the timer after them
abbrev pub after : List Call → Timer → Timer
after [] c = c
after (x ∷ xs) c = after xs (after_one x c)

-- no call tells alike timers apart: to be alike is an equivalence, every call keeps it, and answers alike timers the same
pub record NoCallTells : Type 0 where
  pub symmetric : (a b : Timer) → AlikeTimers a b → AlikeTimers b a
  pub transitive : (a b c : Timer) → AlikeTimers a b → AlikeTimers b c → AlikeTimers a c
  pub kept : (x : Call) (a b : Timer) → AlikeTimers a b → AlikeTimers (after_one x a) (after_one x b)
  pub same_reply : (x : Call) (a b : Timer) → AlikeTimers a b → reply_of x a ≡ reply_of x b
