use Rattle.i86_table.proofs.PairProofs.{byte_laws, word_laws}
use Rattle.i86_table.proofs.pair_law.pair_laws.Goals as goal

pub returns-clause-bytes : goal.returns-clause-bytes
returns-clause-bytes c = byte_laws

pub returns-clause-words : goal.returns-clause-words
returns-clause-words c = word_laws
