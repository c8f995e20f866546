-- What the chip of the code stands for.
use Rattle.std.specs.Prelude.{ℕ, ◌+◌, ◌%◌}
use Rattle.pit8253.specs.declared.pit.Pit.{Pit}
use Rattle.pit8253.specs.Channel.{shown}
use Rattle.pit8253.specs.Timer.{Timer}
use Rattle.pit8253.specs.Alike.{AlikeTimers}

abbrev pub timer_shown : Pit → Timer
timer_shown p = record { zero = shown p.zero; one = shown p.one; two = shown p.two }

-- the code's chip stands for this state
abbrev pub Shows : Pit → Timer → Type 0
Shows p c = AlikeTimers (timer_shown p) c

-- the segments that the three channels made, modulo 2^32
abbrev pub segments_of : Pit → ℕ
segments_of p = (p.zero.segments + p.one.segments + p.two.segments) % 4294967296
