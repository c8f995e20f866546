use Rattle.std.proofs.Common.{ap, ◌∙◌}
use Rattle.ppi_kbd.specs.Keyboard.{pressed}
use Rattle.ppi_kbd.proofs.ports.Ports.event.Goals as goal

pub returns-in-Key : goal.returns-in-Key
returns-in-Key c = rw c.in-Key.is (λ d h. c.serve_keyboard.ensures (record d { keyboard = pressed c.in-Key.code d.keyboard }) (record {
  timer = h.timer;
  interrupts = h.interrupts;
  interface = h.interface;
  keyboard = c.press.ensures ∙ ap (pressed c.in-Key.code) h.keyboard;
}))
