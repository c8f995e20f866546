use Rattle.plm86.proofs.Headline.FromRom.{from_rom}
use Rattle.plm86.proofs.laws.rom_is_correct.Goals as goal

pub returns : goal.returns
returns g c = from_rom c.laws_below.ensures c.one_form.ensures.only c.one_form.ensures.short c.decoded_widths.ensures c.instructions_keep_words.ensures g.L.Layers.Ports g.L.Layers.Rest g.L.Layers.Place
