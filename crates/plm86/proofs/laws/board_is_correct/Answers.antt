use Rattle.plm86.proofs.Headline.Whole.{from_layers}
use Rattle.plm86.proofs.laws.board_is_correct.Goals as goal

pub returns : goal.returns
returns g c = from_layers c.laws_below.ensures c.decoded_widths.ensures c.instructions_keep_words.ensures g.L.Layers.Ports g.L.Layers.Rest g.L.Layers.Place
