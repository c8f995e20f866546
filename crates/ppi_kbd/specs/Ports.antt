-- What the chips of the code stand for.
use Rattle.std.specs.Prelude.{ℕ, zero, suc, Bool, ◌≡◌, ◌+◌, ◌%◌, List, [], ◌∷◌, slice_index}
use Rattle.ppi_kbd.specs.declared.ppi.Ppi.{Ppi}
use Rattle.ppi_kbd.specs.declared.keyboard.Keyboard as code
use Rattle.ppi_kbd.specs.declared.ports.Ports.{Ports}
use Rattle.pic8259.specs.Controller as pic
use Rattle.pic8259.specs.Pic.{controller_of}
use Rattle.pit8253.specs.Pit as pit
use Rattle.ppi_kbd.specs.Interface.{Interface}
use Rattle.ppi_kbd.specs.Keyboard.{Keyboard}
use Rattle.ppi_kbd.specs.Chips.{ChipState}

abbrev pub interface_of : Ppi → Interface
interface_of p = record { a_in = p.a_in; b_in = p.b_in; upper_in = p.upper_in; lower_in = p.lower_in; a = p.a; b = p.b; c = p.c }

-- this number of codes of a ring of 16, from a place on
abbrev pub ring : (codes : List ℕ) (first count : ℕ) → List ℕ
ring codes first zero = []
ring codes first (suc n) = slice_index codes first ∷ ring codes ((first + 1) % 16) n

abbrev pub keyboard_of : code.Keyboard → Keyboard
keyboard_of k = record { register = k.register; queue = ring k.codes k.first k.count }

-- the code's chips stand for this state: the timer for one alike, the others for the state itself
pub record Shows (p : Ports) (c : ChipState) : Type 0 where
  pub timer : pit.Shows p.pit c.timer
  pub interrupts : controller_of p.pic ≡ c.interrupts
  pub interface : interface_of p.ppi ≡ c.interface
  pub keyboard : keyboard_of p.keyboard ≡ c.keyboard

-- INT is up
abbrev pub is_up : Ports → Bool
is_up p = pic.int_line (controller_of p.pic)
