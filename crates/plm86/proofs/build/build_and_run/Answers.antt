use Rattle.std.proofs.Common.{ap, subst, ◌∙◌, rules}
use Rattle.std.specs.Prelude.{map, length}
use Rattle.cpu8086.specs.Cpu.{zeros}
use Rattle.ppi_kbd.specs.Chips.{reset}
use Rattle.board.specs.Machine.{power_on as powered_on}
use Rattle.board.specs.Rom.{is_rom_length}
use Rattle.board.specs.Run.{due_of}
use Rattle.board.specs.Board.{Shows}
use Rattle.word86.specs.PowerOn.{pages_of}
use Rattle.plm86.specs.Build.{text_of}
use Rattle.plm86.proofs.BuiltRuns.{is_taken, no_board, has_run, has_not_run}
use Rattle.plm86.proofs.build.build_and_run.Goals as goal

pub returns-in_err-board-clause-refused : goal.returns-in_err-board-clause-refused
returns-in_err-board-clause-refused g c =
    let wants = c.in_err-board.ensures.taken (ap (λ l. is_rom_length (length l)) c.deref.ensures.value ∙ ap is_rom_length c.in_ok-image.ensures.built.size_is ∙ is_taken c.args.size) in
    let said = no_board (map text_of c.args.sources.now) c.args.size c.args.power_on (due_of c.args.schedule.now) c.args.schedule.now.stop (g.S.Sink.taken c.args.sink.now) (g.S.Sink.failures c.args.sink.now) c.in_err-board.field-0.0 wants in
    search rules

pub returns-clause-ran : goal.returns-clause-ran
returns-clause-ran g c =
    let shown = subst (λ rom. Shows c.in_ok-board.board (powered_on zeros rom c.args.power_on.ram.items (pages_of c.args.power_on) reset)) c.deref.ensures.value c.in_ok-board.ensures.reset in
    has_run (map text_of c.args.sources.now) c.args.size c.args.power_on (due_of c.args.schedule.now) c.args.schedule.now.stop c.in_ok-image.image c.in_ok-image.ensures.built c.run.new.self _ _ _ _ c.run.result (c.run.ensures.run _ shown)

pub returns-clause-refused : goal.returns-clause-refused
returns-clause-refused g c =
    let shown = subst (λ rom. Shows c.in_ok-board.board (powered_on zeros rom c.args.power_on.ram.items (pages_of c.args.power_on) reset)) c.deref.ensures.value c.in_ok-board.ensures.reset in
    has_not_run (map text_of c.args.sources.now) c.args.size c.args.power_on (due_of c.args.schedule.now) c.args.schedule.now.stop c.in_ok-image.image c.in_ok-image.ensures.built c.run.new.self _ _ _ _ c.run.result (c.run.ensures.run _ shown) c.run.ensures.fault
