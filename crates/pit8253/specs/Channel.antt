-- What a channel stands for, and the pulses that it counts in one segment.
use Rattle.std.specs.Prelude.{ℕ, true, ◌≡◌, ◌+◌, ◌%◌, ◌≤◌, ◌≢◌, ◌⊎◌, Option, Some, None, suc, false, ◌<◌}
use Rattle.pit8253.specs.declared.channel.Latch.{Latch}
use Rattle.pit8253.specs.declared.channel.Channel.{Channel}
use Rattle.pit8253.specs.Progress.{Progress, Again, next_of}
use Rattle.pit8253.specs.Timer.{Counter, Latched, is_counting, pulses, out}
use Rattle.pit8253.specs.Element.{element_view}

abbrev pub latch_view : Option Latch → Option Latched
latch_view None = None
latch_view (Some l) = Some (record { value = l.value; reads = l.reads })

abbrev pub shown : Channel → Counter
shown c = record { mode = c.mode; access = c.access; progress = element_view c.element; low = c.low; gate = c.gate; latch = latch_view c.latch; high_next = c.high_next }

-- k pulses that stay within the running period, or begin at a period's start and are whole periods
abbrev pub IsPartOf : ℕ → Progress → Type 0
IsPartOf k (Again waveform n newer p) = ((p % n ≢ 0) × (p % n + k ≤ n)) ⊎ ((p % n ≡ 0) × ((k ≤ next_of n newer) ⊎ (k % next_of n newer ≡ 0)))
IsPartOf k _ = Unit {0}

abbrev pub IsPart : ℕ → Counter → Type 0
IsPart k s = is_counting s ≡ true → IsPartOf k s.progress

-- OUT changes from low to high at one of k single pulses
abbrev pub Rises : ℕ → Counter → Type 0
Rises k s = (i : ℕ) × (i < k) × (out (pulses i s) ≡ false) × (out (pulses (suc i) s) ≡ true)
