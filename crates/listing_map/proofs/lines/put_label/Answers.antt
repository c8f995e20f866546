use Rattle.listing_map.proofs.lines.put_label.Goals as goal

pub returns-in-MonoW : goal.returns-in-MonoW
returns-in-MonoW g c = rw c.in-MonoW.is c.put_word_line-in-MonoW.ensures
