use Rattle.board.specs.Inner.LawfulMemory.{byte_after_store, length-after_store}
use Rattle.board.proofs.Stores.{no_word_on_two_pages}
use Rattle.board.proofs.laws.memory_laws.Goals as goal

pub returns : goal.returns
returns c = record { stores = byte_after_store; no_word_on_two_pages = no_word_on_two_pages; lengths = length-after_store }
