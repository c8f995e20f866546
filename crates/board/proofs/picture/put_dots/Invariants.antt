use Rattle.std.specs.Prelude.{◌≡◌, ◌+◌, ◌*◌, vec_len}
use Rattle.board.proofs.picture.put_dots.Given as goal

abbrev pub invariant-loop-dot : goal.invariant-loop-dot
invariant-loop-dot l = vec_len l.picture ≡ vec_len l.initial.picture + 3 * l._dot
