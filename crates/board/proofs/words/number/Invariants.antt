use Rattle.std.proofs.Common.{◌≡◌, Some, drop}
use Rattle.std.specs.Prelude.{fold}
use Rattle.board.specs.Schedule.{with_digit}
use Rattle.board.proofs.words.number.Given as goal

abbrev pub invariant-loop-d : goal.invariant-loop-d
invariant-loop-d l = fold with_digit l.so_far (drop l.d-index l.digits) ≡ fold with_digit (Some 0) l.digits
