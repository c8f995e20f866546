-- Where segments begin and end: what the parts of a channel ask of one another.
use Rattle.std.specs.Prelude.{ℕ, true, ◌≡◌, ◌+◌, ◌%◌, ◌≤◌, ◌≢◌, ◌⊎◌}
use Rattle.pit8253.specs.declared.cycle.Cycle.{Cycle}
use Rattle.pit8253.specs.Progress.{Progress, Again}
use Rattle.pit8253.specs.Timer.{Counter, is_counting}

-- k pulses that stay within the running period, or that begin at a period's start and are whole periods
abbrev pub IsSegment : ℕ → Cycle → Type 0
IsSegment k c = ((c.pulses % c.period ≢ 0) × (c.pulses % c.period + k ≤ c.period)) ⊎ ((c.pulses % c.period ≡ 0) × ((k ≤ c.next) ⊎ (k % c.next ≡ 0)))

-- a period is over, or none has begun
abbrev pub IsStartOf : Progress → Type 0
IsStartOf (Again waveform n newer p) = p % n ≡ 0
IsStartOf _ = Unit {0}

abbrev pub IsStart : Counter → Type 0
IsStart s = is_counting s ≡ true → IsStartOf s.progress
