-- How far a channel has counted: what one pulse does, and OUT and the count as closed forms in the count N and the
-- number p of pulses since it was loaded (8253 data sheet, "Mode Definition": modes 0, 2 and 3).
use Rattle.std.specs.Prelude.{ℕ, Bool, true, false, not, ◌==◌, ltb, ◌+◌, ◌-◌, ◌*◌, ◌/◌, ◌%◌, ◌||◌, if◌then◌else◌, Option, Some, None}
use Rattle.pit8253.specs.declared.mode.Waveform.{Waveform}
use Rattle.pit8253.specs.declared.mode.Waveform.TheVariants.{Rate, Square}

-- what is counted: nothing yet, with OUT as the mode sets it; a count N once, of which p pulses were counted (mode 0);
-- or a count N again and again, p pulses since it was loaded, with perhaps a newer count that waits for the next period
-- (mode 2, the rate generator, and mode 3, the square wave)
pub data Progress : Type 0 where
  Still : Bool → Progress
  Once : ℕ → ℕ → Progress
  Again : Waveform → ℕ → Option ℕ → ℕ → Progress

-- the count of the next period
abbrev pub next_of : ℕ → Option ℕ → ℕ
next_of n None = n
next_of n (Some m) = m

-- a pulse where a newer count waits: it is taken up, and p is 1 again, if the period is over
abbrev pub renewed : Bool → Waveform → ℕ → ℕ → ℕ → Progress
renewed true waveform n m p = Again waveform m None 1
renewed false waveform n m p = Again waveform n (Some m) (p + 1)

-- one pulse
abbrev pub one : Progress → Progress
one (Still high) = Still high
one (Once n p) = Once n (p + 1)
one (Again waveform n None p) = Again waveform n None (p + 1)
one (Again waveform n (Some m) p) = renewed (p % n == 0) waveform n m p

-- OUT at phase q of a period of n pulses: mode 2 is low exactly while the count is 1, and high always for a period of one
-- pulse; mode 3 is high for the first half, rounded up
abbrev pub out_at : Waveform → ℕ → ℕ → Bool
out_at Rate n q = (n == 1) || not (n - q == 1)
out_at Square n q = ltb q ((n + 1) / 2)

-- OUT: in mode 0 high from p = N + 1 on
abbrev pub is_high : Progress → Bool
is_high (Still high) = high
is_high (Once n p) = ltb n p
is_high (Again waveform n newer p) = (p == 0) || out_at waveform n ((p - 1) % n)

-- the count at phase q of a period of n pulses: it falls by one in mode 2; in mode 3 it falls by two, twice a period, and
-- for an odd n its first step is 1 in the high part and 3 in the low part
abbrev pub count_at : Waveform → ℕ → ℕ → ℕ
count_at Rate n q = n - q
count_at Square n q =
    if n % 2 == 0 then n - 2 * (q % (n / 2))
    else if ltb q ((n + 1) / 2) then (if q == 0 then n else n + 1 - 2 * q)
    else (if q == (n + 1) / 2 then n else n - 1 - 2 * (q - (n + 1) / 2))

-- the count, 0 before the first pulse moves N in; in mode 0 it is N - (p - 1) modulo 65,536, where 65,535 stands for -1
abbrev pub count : Progress → ℕ
count (Still high) = 0
count (Once n p) = if p == 0 then 0 else (n + 65535 * (p - 1)) % 65536
count (Again waveform n newer p) = if p == 0 then 0 else count_at waveform n ((p - 1) % n)
