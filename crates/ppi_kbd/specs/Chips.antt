-- The board's chips as one state, and what a port access, an event and an acknowledgement do to it and answer.
use Rattle.std.specs.Prelude.{ℕ, Bool, true, false, not, ◌+◌, ◌*◌, ◌/◌, ◌%◌, ◌&&◌}
use Rattle.word86.specs.declared.width.Width.{Width}
use Rattle.word86.specs.declared.width.Width.TheVariants.{Byte, Word}
use Rattle.word86.specs.declared.event.Event.{Event}
use Rattle.word86.specs.declared.event.Event.TheVariants.{Tick, Key}
use Rattle.word86.specs.Bytes.{is_set}
use Rattle.pic8259.specs.Controller as pic
use Rattle.pit8253.specs.Timer as pit
use Rattle.ppi_kbd.specs.declared.device.Device.{Device}
use Rattle.ppi_kbd.specs.declared.device.Device.TheVariants as on
use Rattle.ppi_kbd.specs.Device.{device_of}
use Rattle.ppi_kbd.specs.Interface as ppi
use Rattle.ppi_kbd.specs.Keyboard as keys

pub record ChipState : Type 0 where
  pub timer : pit.Timer
  pub interrupts : pic.Controller
  pub interface : ppi.Interface
  pub keyboard : keys.Keyboard

abbrev pub reset : ChipState
reset = record { timer = pit.timer_reset; interrupts = pic.reset; interface = ppi.reset; keyboard = keys.reset }

-- a request line, if it rises: level 0 is the timer's channel 0, level 1 the keyboard; the others never rise
abbrev pub raised : Bool → ℕ → pic.Controller → pic.Controller
raised true level s = pic.pulsed level s
raised false level s = s

-- the timer becomes this one by a write: channel 0's OUT may rise by a control word or a count, too
abbrev pub retimed : pit.Timer → ChipState → ChipState
retimed t c = record c { timer = t; interrupts = raised (not (pit.timer_out 0 c.timer) && pit.timer_out 0 t) 0 c.interrupts }

-- the keyboard becomes this one, and then, with its clear line up or down, it moves on
abbrev pub typed : Bool → keys.Keyboard → ChipState → ChipState
typed clear k c = record c { keyboard = keys.served clear k; interrupts = raised (keys.is_served clear k) 1 c.interrupts }

-- port B's bit 7 is the keyboard's clear line, its bit 0 the gate of the timer's channel 2
abbrev pub clear_line : ChipState → Bool
clear_line c = is_set (ppi.b_lines c.interface) 7

abbrev pub driven : ChipState → ChipState
driven c = typed (clear_line c) c.keyboard (record c { timer = pit.timer_gated (is_set (ppi.b_lines c.interface) 0) c.timer })

-- one byte is read from a device; an unmapped port reads 0FFH
abbrev pub device_value : Device → ChipState → ℕ
device_value (on.Interrupts n) c = pic.answer n c.interrupts
device_value (on.Timer n) c = pit.timer_answer n c.timer
device_value (on.Interface n) c = ppi.answer n (keys.register_byte c.keyboard) (pit.timer_out 2 c.timer) c.interface
device_value on.Unmapped c = 255

abbrev pub device_read : Device → ChipState → ChipState
device_read (on.Interrupts n) c = c
device_read (on.Timer n) c = record c { timer = pit.timer_read n c.timer }
device_read (on.Interface n) c = c
device_read on.Unmapped c = c

-- one byte is written to a device; an unmapped port takes nothing
abbrev pub device_written : Device → ℕ → ChipState → ChipState
device_written (on.Interrupts n) v c = record c { interrupts = pic.written n v c.interrupts }
device_written (on.Timer n) v c = retimed (pit.timer_written n v c.timer) c
device_written (on.Interface n) v c = driven (record c { interface = ppi.written n v c.interface })
device_written on.Unmapped v c = c

-- the port of a word's high byte
abbrev pub next_port : ℕ → ℕ
next_port port = (port + 1) % 65536

-- the chips after a read; a word is the low byte, then the next port
abbrev pub reading : ChipState → Width → ℕ → ChipState
reading c Byte port = device_read (device_of port) c
reading c Word port = device_read (device_of (next_port port)) (device_read (device_of port) c)

-- the value that is read
abbrev pub byte_value : ChipState → ℕ → ℕ
byte_value c port = device_value (device_of port) c % 256

abbrev pub value : ChipState → Width → ℕ → ℕ
value c Byte port = byte_value c port
value c Word port = byte_value (reading c Byte port) (next_port port) * 256 + byte_value c port

-- the chips after a write; a word is the low byte, then the next port
abbrev pub writing : ChipState → Width → ℕ → ℕ → ChipState
writing c Byte port v = device_written (device_of port) v c
writing c Word port v = device_written (device_of (next_port port)) (v / 256) (device_written (device_of port) (v % 256) c)

-- an event comes: k pulses on every channel of the timer, or a code of the keyboard
abbrev pub occurs : Event → ChipState → ChipState
occurs (Tick k) c = record c { timer = pit.timer_pulses k c.timer; interrupts = raised (pit.rose k c.timer.zero) 0 c.interrupts }
occurs (Key code) c = typed (clear_line c) (keys.pressed code c.keyboard) c

-- INT, and an acknowledgement with its vector
abbrev pub int_line : ChipState → Bool
int_line c = pic.int_line c.interrupts

abbrev pub vector : ChipState → ℕ
vector c = pic.vector c.interrupts % 256

abbrev pub acknowledged : ChipState → ChipState
acknowledged c = record c { interrupts = pic.acknowledged c.interrupts }
