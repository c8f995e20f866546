use Rattle.i86_table.proofs.WordProofs.{keeps_words}
use Rattle.i86_table.proofs.words.instructions_keep_words.Goals as goal

pub returns : goal.returns
returns c = keeps_words
