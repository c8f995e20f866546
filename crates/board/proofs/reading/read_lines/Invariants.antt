use Rattle.std.proofs.Common.{◌≡◌}
use Rattle.std.specs.Prelude.{fold}
use Rattle.board.specs.Schedule.{read_lines, with_line}
use Rattle.board.specs.Inner.Reading.{seen}
use Rattle.board.proofs.reading.read_lines.Given as goal

abbrev pub invariant-loop-line : goal.invariant-loop-line
invariant-loop-line l = fold with_line (seen l.reading) l.line-iterator ≡ read_lines l.fn.text
