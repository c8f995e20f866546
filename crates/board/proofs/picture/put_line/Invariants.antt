use Rattle.std.specs.Prelude.{◌≡◌, ◌+◌, ◌*◌, vec_len}
use Rattle.board.proofs.picture.put_line.Given as goal

abbrev pub invariant-loop-column : goal.invariant-loop-column
invariant-loop-column l = vec_len l.picture ≡ vec_len l.initial.picture + 24 * l.column
