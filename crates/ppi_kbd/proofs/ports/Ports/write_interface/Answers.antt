use Rattle.std.proofs.Common.{◌≡◌, ap, ◌∙◌, subst}
use Rattle.word86.specs.Bytes.{is_set}
use Rattle.pit8253.specs.Timer.{timer_gated}
use Rattle.pit8253.specs.Pit as pit
use Rattle.ppi_kbd.specs.Interface.{written, b_lines}
use Rattle.ppi_kbd.proofs.ports.Ports.write_interface.Goals as goal

pub returns : goal.returns
returns c = λ d h.
    let interface = c.write.ensures ∙ ap (written c.args.n c.args.value) h.interface in
    let gate : c.is_set.result ≡ is_set (b_lines (written c.args.n c.args.value d.interface)) 0 =
    c.is_set.ensures ∙ (ap (λ x. is_set x 0) c.b_lines.ensures ∙ ap (λ x. is_set (b_lines x) 0) interface) in
    c.serve_keyboard.ensures
    (record {
      timer = timer_gated (is_set (b_lines (written c.args.n c.args.value d.interface)) 0) d.timer;
      interrupts = d.interrupts;
      interface = written c.args.n c.args.value d.interface;
      keyboard = d.keyboard;
    })
    (record {
      timer = subst (λ g. pit.Shows c.gate.new.self (timer_gated g d.timer)) gate (c.gate.ensures d.timer h.timer);
      interrupts = h.interrupts;
      interface = interface;
      keyboard = h.keyboard;
    })
