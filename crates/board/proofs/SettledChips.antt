-- No call of the chips tells a state from its settled one, by the timer's law.
use Rattle.std.proofs.Common.{◌≡◌, ℕ, ◌+◌, ◌*◌, ◌/◌, ◌%◌, refl, sym, ap, ap₂, ◌∙◌, subst}
use Rattle.std.specs.Prelude.{not, ◌&&◌}
use Rattle.word86.specs.declared.width.Width.{Width}
use Rattle.word86.specs.declared.width.Width.TheVariants.{Byte, Word}
use Rattle.word86.specs.declared.event.Event.{Event}
use Rattle.word86.specs.declared.event.Event.TheVariants.{Tick, Key}
use Rattle.word86.specs.Bytes.{is_set}
use Rattle.pit8253.specs.Timer as pit
use Rattle.pit8253.specs.Alike.{AlikeTimers}
use Rattle.pit8253.specs.Calls.{NoCallTells}
use Rattle.pit8253.specs.Pit.{timer_shown}
use Rattle.pic8259.specs.Controller as pic
use Rattle.ppi_kbd.specs.declared.device.Device.{Device}
use Rattle.ppi_kbd.specs.declared.device.Device.TheVariants as devices
use Rattle.ppi_kbd.specs.declared.ports.Ports.{Ports}
use Rattle.ppi_kbd.specs.Device.{device_of}
use Rattle.ppi_kbd.specs.Interface as ppi
use Rattle.ppi_kbd.specs.Keyboard as keys
use Rattle.ppi_kbd.specs.Chips.{ChipState, raised, retimed, typed, driven, clear_line, device_value, device_read, device_written, next_port, value, reading, writing, occurs, acknowledged, byte_value}
use Rattle.ppi_kbd.specs.Ports.{Shows}
use Rattle.board.specs.Inner.Settled.{settled_timer, settled, chips_of}
use Rattle.board.proofs.Settling.{timer_same, timer_alike, timer_settled, written_times, read_times, gated_times, pulses_times, out_same, answer_same, rose_settled}

-- a change of the chips that keeps alike states alike
abbrev pub Settles : (ChipState → ChipState) → Type 0
Settles f = (c : ChipState) → settled (f c) ≡ settled (f (settled c))

chips : pit.Timer → pic.Controller → ppi.Interface → keys.Keyboard → ChipState
chips t p i k = record { timer = t; interrupts = p; interface = i; keyboard = k }

abbrev chips_at : ChipState → pic.Controller → ppi.Interface → keys.Keyboard → pit.Timer → ChipState
chips_at c p i k t = record { timer = t; interrupts = p; interface = i; keyboard = k }

pub settled_twice : (c : ChipState) → settled c ≡ settled (settled c)
settled_twice c = ap (chips_at c c.interrupts c.interface c.keyboard) (timer_settled c.timer)

pub one_then_other : (f g : ChipState → ChipState) → Settles f → Settles g → Settles (λ c. g (f c))
one_then_other f g h k c = k (f c) ∙ ap (λ s. settled (g s)) (h c) ∙ sym (k (f (settled c)))

-- ---- one device

read_settles : NoCallTells → (d : Device) → Settles (device_read d)
read_settles law (devices.Interrupts n) c = settled_twice c
read_settles law (devices.Timer n) c = ap (chips_at c c.interrupts c.interface c.keyboard) (read_times law n c.timer)
read_settles law (devices.Interface n) c = settled_twice c
read_settles law devices.Unmapped c = settled_twice c

value_same : NoCallTells → (d : Device) (c : ChipState) → device_value d c ≡ device_value d (settled c)
value_same law (devices.Interrupts n) c = refl
value_same law (devices.Timer n) c = answer_same law n c.timer
value_same law (devices.Interface n) c = ap (λ t. ppi.answer n (keys.register_byte c.keyboard) t c.interface) (out_same law 2 c.timer)
value_same law devices.Unmapped c = refl

-- channel 0's OUT after a write, whatever was settled before
out_after : NoCallTells → (n v : ℕ) (t : pit.Timer) → pit.timer_out 0 (pit.timer_written n v t) ≡ pit.timer_out 0 (pit.timer_written n v (settled_timer t))
out_after law n v t =
    out_same law 0 (pit.timer_written n v t) ∙ ap (pit.timer_out 0) (written_times law n v t) ∙ sym (out_same law 0 (pit.timer_written n v (settled_timer t)))

retimed_settles : NoCallTells → (n v : ℕ) → Settles (λ c. retimed (pit.timer_written n v c.timer) c)
retimed_settles law n v c =
    ap (chips_at c (raised (not (pit.timer_out 0 c.timer) && pit.timer_out 0 (pit.timer_written n v c.timer)) 0 c.interrupts) c.interface c.keyboard) (written_times law n v c.timer)
    ∙ ap₂ (λ a b. chips_at c (raised (not a && b) 0 c.interrupts) c.interface c.keyboard (settled_timer (pit.timer_written n v (settled_timer c.timer)))) (out_same law 0 c.timer) (out_after law n v c.timer)

driven_settles : NoCallTells → Settles driven
driven_settles law c =
    ap (chips_at c (raised (keys.is_served (clear_line c) c.keyboard) 1 c.interrupts) c.interface (keys.served (clear_line c) c.keyboard)) (gated_times law (is_set (ppi.b_lines c.interface) 0) c.timer)

device_settles : NoCallTells → (d : Device) (v : ℕ) → Settles (device_written d v)
device_settles law (devices.Interrupts n) v c = settled_twice (record c { interrupts = pic.written n v c.interrupts })
device_settles law (devices.Timer n) v c = retimed_settles law n v c
device_settles law (devices.Interface n) v c = driven_settles law (record c { interface = ppi.written n v c.interface })
device_settles law devices.Unmapped v c = settled_twice c

-- ---- ports

pub reading_settles : NoCallTells → (width : Width) (port : ℕ) → Settles (λ c. reading c width port)
reading_settles law Byte port = read_settles law (device_of port)
reading_settles law Word port = one_then_other (device_read (device_of port)) (device_read (device_of (next_port port))) (read_settles law (device_of port)) (read_settles law (device_of (next_port port)))

pub writing_settles : NoCallTells → (width : Width) (port v : ℕ) → Settles (λ c. writing c width port v)
writing_settles law Byte port v = device_settles law (device_of port) v
writing_settles law Word port v =
    one_then_other (device_written (device_of port) (v % 256)) (device_written (device_of (next_port port)) (v / 256)) (device_settles law (device_of port) (v % 256)) (device_settles law (device_of (next_port port)) (v / 256))

byte_same : NoCallTells → (port : ℕ) (c : ChipState) → byte_value c port ≡ byte_value (settled c) port
byte_same law port c = ap (λ v. v % 256) (value_same law (device_of port) c)

pub port_value_same : NoCallTells → (width : Width) (port : ℕ) (c : ChipState) → value c width port ≡ value (settled c) width port
port_value_same law Byte port c = byte_same law port c
port_value_same law Word port c =
    let high : byte_value (reading c Byte port) (next_port port) ≡ byte_value (reading (settled c) Byte port) (next_port port) =
    byte_same law (next_port port) (reading c Byte port) ∙ ap (λ s. byte_value s (next_port port)) (reading_settles law Byte port c) ∙ sym (byte_same law (next_port port) (reading (settled c) Byte port)) in
    ap₂ (λ (a b : ℕ). a * 256 + b) high (byte_same law port c)

-- ---- events and acknowledgements

pub occurs_settles : NoCallTells → (e : Event) → Settles (occurs e)
occurs_settles law (Tick j) c =
    ap (chips_at c (raised (pit.rose j c.timer.zero) 0 c.interrupts) c.interface c.keyboard) (pulses_times law j c.timer)
    ∙ ap (λ b. chips_at c (raised b 0 c.interrupts) c.interface c.keyboard (settled_timer (pit.timer_pulses j (settled_timer c.timer)))) (rose_settled law j c.timer)
occurs_settles law (Key code) c = settled_twice (typed (clear_line c) (keys.pressed code c.keyboard) c)

pub acknowledged_settles : Settles acknowledged
acknowledged_settles c = settled_twice (acknowledged c)

-- ---- the code's chips

pub ports_show : (p : Ports) → Shows p (chips_of p)
ports_show p = record { timer = timer_alike (timer_shown p.pit); interrupts = refl; interface = refl; keyboard = refl }

same_chips : (t u : pit.Timer) (p q : pic.Controller) (i j : ppi.Interface) (k l : keys.Keyboard) → t ≡ u → p ≡ q → i ≡ j → k ≡ l → (let a : ChipState = record { timer = t; interrupts = p; interface = i; keyboard = k } in a) ≡ (let b : ChipState = record { timer = u; interrupts = q; interface = j; keyboard = l } in b)
same_chips t u p q i j k l a b c d = cc

pub shown_is_settled : (p : Ports) (c : ChipState) → Shows p c → settled c ≡ chips_of p
shown_is_settled p c h = sym (same_chips _ _ _ _ _ _ _ _ (timer_same _ c.timer h.timer) h.interrupts h.interface h.keyboard)

pub shows_settled : NoCallTells → (p : Ports) (c : ChipState) → chips_of p ≡ settled c → Shows p c
shows_settled law p c e = record {
  timer =
      law.transitive (timer_shown p.pit) (settled_timer c.timer) c.timer
      (subst (λ t. AlikeTimers (timer_shown p.pit) t) (ap (λ (s : ChipState). s.timer) e) (timer_alike (timer_shown p.pit)))
      (law.symmetric c.timer (settled_timer c.timer) (timer_alike c.timer));
  interrupts = ap (λ (s : ChipState). s.interrupts) e;
  interface = ap (λ (s : ChipState). s.interface) e;
  keyboard = ap (λ (s : ChipState). s.keyboard) e;
}

-- a call of the code, by settled states
pub settles : (p q : Ports) (f : ChipState → ChipState) → ((c : ChipState) → Shows p c → Shows q (f c)) → chips_of q ≡ settled (f (chips_of p))
settles p q f h = sym (shown_is_settled q (f (chips_of p)) (h (chips_of p) (ports_show p)))

pub answers : {A : Type 0} (p : Ports) (r : A) (f : ChipState → A) → ((c : ChipState) → Shows p c → r ≡ f c) → r ≡ f (chips_of p)
answers p r f h = h (chips_of p) (ports_show p)
