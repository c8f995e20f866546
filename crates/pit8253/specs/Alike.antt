-- States of counting, channels and timers that differ at most in whole periods gone by: nothing tells them apart.
use Rattle.std.specs.Prelude.{ℕ, ◌≡◌, ◌-◌, ◌%◌, ◌<◌, ◌⊎◌}
use Rattle.pit8253.specs.Progress.{Progress, next_of, Still, Once, Again}
use Rattle.pit8253.specs.Timer.{Counter, Timer}

-- two numbers of pulses that differ by whole periods of n
abbrev pub SamePhase : ℕ → ℕ → ℕ → Type 0
SamePhase n p r = (p ≡ 0 → r ≡ 0) × (r ≡ 0 → p ≡ 0) × ((p - 1) % n ≡ (r - 1) % n)

-- in mode 0: the same number, or both past the end and whole turns of the 16-bit count apart
abbrev pub SameOnce : ℕ → ℕ → ℕ → Type 0
SameOnce n p r = (p ≡ r) ⊎ ((n < p) × (n < r) × ((p - 1) % 65536 ≡ (r - 1) % 65536))

-- two states of counting that no pulse and no reading tells apart
abbrev pub Alike : Progress → Progress → Type 0
Alike (Still a) (Still b) = a ≡ b
Alike (Once n p) (Once m r) = (n ≡ m) × SameOnce n p r
Alike (Again s n a p) (Again t m b r) = (s ≡ t) × (n ≡ m) × (next_of n a ≡ next_of m b) × SamePhase n p r
Alike _ _ = ⊥

-- two channels that differ at most in whole periods gone by
pub record AlikeCounters (a b : Counter) : Type 0 where
  pub same_mode : a.mode ≡ b.mode
  pub same_access : a.access ≡ b.access
  pub same_progress : Alike a.progress b.progress
  pub same_low : a.low ≡ b.low
  pub same_gate : a.gate ≡ b.gate
  pub same_latch : a.latch ≡ b.latch
  pub same_high_next : a.high_next ≡ b.high_next

pub record AlikeTimers (a b : Timer) : Type 0 where
  pub same_zero : AlikeCounters a.zero b.zero
  pub same_one : AlikeCounters a.one b.one
  pub same_two : AlikeCounters a.two b.two
