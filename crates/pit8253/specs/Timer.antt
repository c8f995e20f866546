-- The 8253 of this board: three channels, what a call does to them and what it answers (8253 data sheet, "Control Word Format",
-- "Programming Format" and "Read Operations"). Modes 0, 2 and 3 in binary; control words of the other modes and of BCD are ignored.
use Rattle.std.specs.Prelude.{ℕ, zero, suc, Bool, true, false, not, ◌==◌, ◌+◌, ◌*◌, ◌/◌, ◌%◌, ◌&&◌, ◌||◌, if◌then◌else◌, Option, Some, None, is_some}
use Rattle.pit8253.specs.declared.mode.Waveform.TheVariants.{Rate, Square}
use Rattle.pit8253.specs.declared.mode.Mode.{Mode}
use Rattle.pit8253.specs.declared.mode.Mode.TheVariants.{Unset, TerminalCount, Periodic}
use Rattle.pit8253.specs.declared.mode.Access.{Access}
use Rattle.pit8253.specs.declared.mode.Access.TheVariants.{Low, High, Both}
use Rattle.pit8253.specs.Progress.{Progress, Still, Once, Again, one, is_high, count, next_of}

-- a count held for reading, and how many reads it still serves
pub record Latched : Type 0 where
  pub value : ℕ
  pub reads : ℕ

-- one channel
pub record Counter : Type 0 where
  pub mode : Mode
  pub access : Access
  pub progress : Progress
  pub low : Option ℕ  -- the low byte of a count whose high byte is awaited
  pub gate : Bool
  pub latch : Option Latched
  pub high_next : Bool  -- the high byte is read next

abbrev pub is_periodic : Mode → Bool
is_periodic (Periodic s) = true
is_periodic _ = false

abbrev pub is_terminal : Mode → Bool
is_terminal TerminalCount = true
is_terminal _ = false

-- whether pulses are counted: the gate is high, and in mode 0 no second byte is awaited
abbrev pub is_counting : Counter → Bool
is_counting s = s.gate && not (is_terminal s.mode && is_some s.low)

abbrev pub moved : Bool → Progress → Progress
moved true m = one m
moved false m = m

-- one pulse
abbrev pub pulse : Counter → Counter
pulse s = record s { progress = moved (is_counting s) s.progress }

-- k single pulses
unfoldable pub pulses : ℕ → Counter → Counter
pulses zero s = s
pulses (suc k) s = pulse (pulses k s)

-- OUT, which a low gate holds high in modes 2 and 3
abbrev pub out : Counter → Bool
out s = (is_periodic s.mode && not s.gate) || is_high s.progress

-- whether OUT rose, as a test
unfoldable pub rose : ℕ → Counter → Bool
rose zero s = false
rose (suc k) s = rose k s || (not (out (pulses k s)) && out (pulses (suc k) s))

-- the count of 16 bits
abbrev pub count_of : Counter → ℕ
count_of s = count s.progress % 65536

-- a whole count was written: in mode 0 it begins anew; in modes 2 and 3 it waits for the next period, or replaces a count
-- that no pulse has moved in yet
abbrev pub loaded : Mode → ℕ → Progress → Progress
loaded Unset n m = m
loaded TerminalCount n m = Once n 0
loaded (Periodic waveform) n (Again t k newer p) = if p == 0 then Again waveform n None 0 else Again t k (Some n) p
loaded (Periodic waveform) n (Still b) = Again waveform n None 0
loaded (Periodic waveform) n (Once k p) = Again waveform n None 0

-- a written count of 0 is 65,536
abbrev pub full : ℕ → ℕ
full c = if c == 0 then 65536 else c

abbrev pub load : ℕ → Counter → Counter
load c s = record s { low = None; progress = loaded s.mode (full c) s.progress }

-- a byte for the count: the low one, the high one, or one after the other
abbrev pub written_by : Access → Option ℕ → ℕ → Counter → Counter
written_by Low l v s = load v s
written_by High l v s = load (256 * v) s
written_by Both None v s = record s { low = Some v }
written_by Both (Some l) v s = load (l + 256 * v) s

-- before a control word it is ignored
abbrev pub written_in : Mode → ℕ → Counter → Counter
written_in Unset v s = s
written_in TerminalCount v s = written_by s.access s.low v s
written_in (Periodic waveform) v s = written_by s.access s.low v s

abbrev pub written : ℕ → Counter → Counter
written v s = written_in s.mode v s

-- a rise of the gate in modes 2 and 3: a new period, of the newest count
abbrev pub restarted : Progress → Progress
restarted (Still b) = Still b
restarted (Once n p) = Once n p
restarted (Again s n newer p) = Again s (next_of n newer) None 0

-- the gate has this level
abbrev pub gated : Bool → Counter → Counter
gated g s = record s { gate = g; progress = if g && not s.gate then restarted s.progress else s.progress }

-- a latch holds the count until it is read in full, and a second latch before that is ignored
abbrev pub reads_of : Access → ℕ
reads_of Both = 2
reads_of _ = 1

abbrev pub latch_from : Option Latched → Counter → Counter
latch_from None s = record s { latch = Some (record { value = count_of s; reads = reads_of s.access }) }
latch_from (Some l) s = s

abbrev pub latched : Counter → Counter
latched s = latch_from s.latch s

-- what is read: the held count, or the running one
abbrev pub value_of : Option Latched → Counter → ℕ
value_of None s = count_of s
value_of (Some l) s = l.value

abbrev pub byte_of : Access → Bool → ℕ → ℕ
byte_of Low high_next v = v % 256
byte_of High high_next v = v / 256
byte_of Both false v = v % 256
byte_of Both true v = v / 256

-- the byte that a read answers
abbrev pub answer : Counter → ℕ
answer s = byte_of s.access s.high_next (value_of s.latch s)

abbrev pub used : Option Latched → Option Latched
used None = None
used (Some l) = if l.reads == 2 then Some (record l { reads = 1 }) else None

abbrev pub is_both : Access → Bool
is_both Both = true
is_both _ = false

-- the channel after a read
abbrev pub read : Counter → Counter
read s = record s { latch = used s.latch; high_next = is_both s.access && not s.high_next }

-- a control word, of this mode and this access: OUT is low in mode 0 and high in modes 2 and 3
abbrev pub started : Mode → Progress
started TerminalCount = Still false
started _ = Still true

abbrev pub set_to : Mode → Access → Counter → Counter
set_to m a s = record { mode = m; access = a; progress = started m; low = None; gate = s.gate; latch = None; high_next = false }

-- at reset, with the gate at this level
abbrev pub reset : Bool → Counter
reset gate = record { mode = Unset; access = Low; progress = Still true; low = None; gate = gate; latch = None; high_next = false }

-- the three channels
pub record Timer : Type 0 where
  pub zero : Counter
  pub one : Counter
  pub two : Counter

-- one channel of the three changes; there is no fourth
abbrev pub on : ℕ → (Counter → Counter) → Timer → Timer
on n f c =
    if n == 0 then record c { zero = f c.zero }
    else if n == 1 then record c { one = f c.one }
    else if n == 2 then record c { two = f c.two }
    else c

-- bits 3 to 0 of a control word: mode 0, 2 (x10) or 3 (x11), in binary
abbrev pub mode_of : ℕ → Option Mode
mode_of x =
    if x == 0 then Some TerminalCount
    else if (x == 4) || (x == 12) then Some (Periodic Rate)
    else if (x == 6) || (x == 14) then Some (Periodic Square)
    else None

-- bits 5 and 4
abbrev pub access_of : ℕ → Access
access_of x = if x == 1 then Low else if x == 2 then High else Both

abbrev pub set_by : Option Mode → Access → Counter → Counter
set_by None a s = s
set_by (Some m) a s = set_to m a s

-- a control word for a channel: a latch where bits 5 and 4 are 0, whatever the lower ones are
abbrev pub command : ℕ → Counter → Counter
command v s = if v / 16 % 4 == 0 then latched s else set_by (mode_of (v % 16)) (access_of (v / 16 % 4)) s

-- a byte is written to register n: 0 to 2 the channels, 3 the control word, whose bits 7 and 6 name the channel
abbrev pub timer_written : ℕ → ℕ → Timer → Timer
timer_written n v c = if n == 3 then on (v / 64) (command v) c else on n (written v) c

-- the timer after a read of register n
abbrev pub timer_read : ℕ → Timer → Timer
timer_read n c = on n read c

-- the byte that it answers; the control register reads 0FFH
abbrev pub timer_answer : ℕ → Timer → ℕ
timer_answer n c =
    if n == 0 then answer c.zero
    else if n == 1 then answer c.one
    else if n == 2 then answer c.two
    else 255

-- OUT of channel n
abbrev pub timer_out : ℕ → Timer → Bool
timer_out n c =
    if n == 0 then out c.zero
    else if n == 1 then out c.one
    else if n == 2 then out c.two
    else true

-- the gate of channel 2 has this level
abbrev pub timer_gated : Bool → Timer → Timer
timer_gated g c = record c { two = gated g c.two }

-- k pulses on every channel
abbrev pub timer_pulses : ℕ → Timer → Timer
timer_pulses k c = record { zero = pulses k c.zero; one = pulses k c.one; two = pulses k c.two }

-- at reset the gates of channels 0 and 1 are high, channel 2's is low
abbrev pub timer_reset : Timer
timer_reset = record { zero = reset true; one = reset true; two = reset false }
