use Rattle.plm86.proofs.Headline.Quiet.{quiet_from_rom}
use Rattle.plm86.proofs.laws.rom_starts_quietly.Goals as goal

pub returns : goal.returns
returns g c = quiet_from_rom c.laws_below.ensures c.one_form.ensures.only c.one_form.ensures.short g.L.Layers.Ports
