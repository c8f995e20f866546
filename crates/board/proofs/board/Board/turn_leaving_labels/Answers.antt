use Rattle.std.proofs.Common.{◌∙◌, sym, ap}
use Rattle.ppi_kbd.specs.Chips.{ChipState}
use Rattle.cpu8086.specs.Turn.{Outcome}
use Rattle.board.specs.World.{World}
use Rattle.board.specs.Inner.Settled.{settled_chips}
use Rattle.board.proofs.RomStays.{rom_stays, all_occur_rom}
use Rattle.board.specs.Inner.Attached.{world_of}
use Rattle.board.proofs.BoardTurn.{turn_state, turn_labels, turn_kinds}
use Rattle.board.proofs.Waiting.{wait_labels}
use Rattle.board.proofs.board.Board.turn_leaving_labels.Goals as goal

pub returns-clause-state : goal.returns-clause-state
returns-clause-state c = λ b h. turn_state c.args.self.now _ c.turn_leaving_labels.new.labels.items c.turn_leaving_labels.result c.args.events.now b (record { law = c.alike_law.ensures; between = world_of c.all_occur.new.attached; occurred = c.all_occur.ensures; went = c.turn_leaving_labels.ensures }) h

pub returns-clause-labels : goal.returns-clause-labels
returns-clause-labels c = λ b h. turn_labels c.args.self.now c.turn_leaving_labels.new.self c.turn_leaving_labels.new.bus c.turn_leaving_labels.new.labels.items c.turn_leaving_labels.result c.args.events.now b (record { law = c.alike_law.ensures; between = world_of c.all_occur.new.attached; occurred = c.all_occur.ensures; went = c.turn_leaving_labels.ensures }) h

pub returns-clause-kind : goal.returns-clause-kind
returns-clause-kind c = λ b h. turn_kinds c.args.self.now c.turn_leaving_labels.new.self c.turn_leaving_labels.new.bus c.turn_leaving_labels.new.labels.items c.turn_leaving_labels.result c.args.events.now b (record { law = c.alike_law.ensures; between = world_of c.all_occur.new.attached; occurred = c.all_occur.ensures; went = c.turn_leaving_labels.ensures }) h

pub returns-clause-wait : goal.returns-clause-wait
returns-clause-wait c = λ is. wait_labels c.args.self.now c.turn_leaving_labels.new.self c.turn_leaving_labels.new.bus c.turn_leaving_labels.new.labels.items c.turn_leaving_labels.result c.args.events.now (record { law = c.alike_law.ensures; between = world_of c.all_occur.new.attached; occurred = c.all_occur.ensures; went = c.turn_leaving_labels.ensures }) is

pub invariant_of-self : goal.invariant_of-self
invariant_of-self c = record {
  same_rom = c.args.self.now.same_rom ∙ sym (ap (λ (o : Outcome (World ChipState)). o.world.rom) c.turn_leaving_labels.ensures ∙ rom_stays settled_chips _ _
      ∙ ap (λ (w : World ChipState). w.rom) c.all_occur.ensures ∙ all_occur_rom settled_chips c.args.events.now (world_of c.args.self.now.attached));
}
