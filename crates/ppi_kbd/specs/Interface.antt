-- The 8255A of this board in mode 0 (8255A data sheet, "Mode Definition Format" and "Bit Set/Reset Format"): three ports, each an
-- input or an output, C by halves.
use Rattle.std.specs.Prelude.{ℕ, Bool, true, not, ◌==◌, ◌+◌, ◌-◌, ◌*◌, ◌/◌, ◌%◌, ◌^◌, ◌&&◌, if◌then◌else◌, bit_and, bit_or}
use Rattle.word86.specs.Bytes.{is_set}

-- the byte with a bit set and with it reset
abbrev pub with_bit : ℕ → ℕ → ℕ
with_bit bit byte = bit_or byte (2 ^ bit)

abbrev pub without_bit : ℕ → ℕ → ℕ
without_bit bit byte = bit_and byte (255 - 2 ^ bit)

-- which ports are inputs, and the latches of the outputs
pub record Interface : Type 0 where
  pub a_in : Bool
  pub b_in : Bool
  pub upper_in : Bool
  pub lower_in : Bool
  pub a : ℕ
  pub b : ℕ
  pub c : ℕ

-- at reset every port is an input
abbrev pub reset : Interface
reset = record { a_in = true; b_in = true; upper_in = true; lower_in = true; a = 0; b = 0; c = 0 }

-- a mode word clears the latches; one with another mode than 0 in either group (bits 6 and 5, and bit 2) is ignored
abbrev pub configured : ℕ → Interface → Interface
configured v s =
    if (v / 32 % 4 == 0) && not (is_set v 2)
    then record { a_in = is_set v 4; b_in = is_set v 1; upper_in = is_set v 3; lower_in = is_set v 0; a = 0; b = 0; c = 0 }
    else s

-- bits 3 to 1 choose a bit of C's latch, which becomes bit 0
abbrev pub bit_changed : ℕ → Interface → Interface
bit_changed v s = record s { c = if is_set v 0 then with_bit (v / 2 % 8) s.c else without_bit (v / 2 % 8) s.c }

-- a byte is written: to the latch of port 0 to 2, or as a control word to 3
abbrev pub written : ℕ → ℕ → Interface → Interface
written n v s =
    if n == 0 then record s { a = v }
    else if n == 1 then record s { b = v }
    else if n == 2 then record s { c = v }
    else if is_set v 7 then configured v s
    else bit_changed v s

-- the lines that port B drives: 0 while it is an input
abbrev pub b_lines : Interface → ℕ
b_lines s = if s.b_in then 0 else s.b

-- what the upper half of C reads as an input: bit 5 is OUT of the timer's channel 2, the others are 0
abbrev pub upper_lines : Bool → ℕ
upper_lines out = if out then 32 else 0

-- what a read answers: an output its latch; as inputs, A the keyboard's register, B 0FFH, C the lines above; the control
-- register 0FFH
abbrev pub answer : ℕ → ℕ → Bool → Interface → ℕ
answer n register out s =
    if n == 0 then (if s.a_in then register else s.a)
    else if n == 1 then (if s.b_in then 255 else s.b)
    else if n == 2 then (if s.upper_in then upper_lines out else 16 * (s.c / 16)) + (if s.lower_in then 0 else s.c % 16)
    else 255
