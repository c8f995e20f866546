use Rattle.std.proofs.Common.{◌≡◌, drop}
use Rattle.board.specs.Schedule.{is_blank_line}
use Rattle.board.proofs.words.is_blank_line.Given as goal

abbrev pub invariant-loop-b : goal.invariant-loop-b
invariant-loop-b l = is_blank_line (drop l.b-index l.line) ≡ is_blank_line l.line
