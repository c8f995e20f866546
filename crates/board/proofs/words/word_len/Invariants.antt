use Rattle.std.proofs.Common.{◌≡◌, ◌+◌, drop}
use Rattle.board.specs.Schedule.{word_len}
use Rattle.board.proofs.words.word_len.Given as goal

abbrev pub invariant-loop-b : goal.invariant-loop-b
invariant-loop-b l = (l.n + word_len (drop l.b-index l.text) ≡ word_len l.text) × (l.n ≡ l.b-index)
