use Rattle.std.proofs.Common.{refl}
use Rattle.board.specs.Run.{due_of}
use Rattle.board.proofs.Counted.{counted_closes}
use Rattle.board.proofs.Stretches.{lived_ends, lived_none, shows_same}
use Rattle.board.proofs.board.Board.run_numbered.Goals as goal

pub returns-in-Next-clause-run : goal.returns-in-Next-clause-run
returns-in-Next-clause-run g c = λ b h. counted_closes (due_of c.args.schedule.now) b c.args.schedule.now.stop _ _ _ _ _ _ _ c.put_stop.result (c.in-Next.ensures.counted b (shows_same c.args.self.now _ b refl refl h)) (rw c.stop.ensures at c.put_stop.ensures.text) c.put_stop.ensures.end

pub returns-in-Opcode-clause-run : goal.returns-in-Opcode-clause-run
returns-in-Opcode-clause-run g c = λ b h. c.in-Opcode.ensures.counted b (shows_same c.args.self.now _ b refl refl h)

pub returns-in-Broken-clause-run : goal.returns-in-Broken-clause-run
returns-in-Broken-clause-run g c = λ b h. c.in-Broken.ensures.counted b (shows_same c.args.self.now _ b refl refl h)

pub returns-in-Next-clause-died : goal.returns-in-Next-clause-died
returns-in-Next-clause-died g c = λ b h.
    lived_ends (due_of c.args.schedule.now) b c.args.schedule.now.stop _ c.put_stop.result c.put_stop.ensures.end
    (c.in-Next.ensures.lasted b (lived_none (due_of c.args.schedule.now) b _ (shows_same c.args.self.now _ b refl refl h) refl))

pub returns-in-Opcode-clause-died : goal.returns-in-Opcode-clause-died
returns-in-Opcode-clause-died g c = λ b h. c.in-Opcode.ensures.lasted b (lived_none (due_of c.args.schedule.now) b _ (shows_same c.args.self.now _ b refl refl h) refl)
