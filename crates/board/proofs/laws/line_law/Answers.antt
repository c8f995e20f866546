use Rattle.board.proofs.LineForms.{line_is, line_from}
use Rattle.board.proofs.laws.line_law.Goals as goal

pub returns-clause-read : goal.returns-clause-read
returns-clause-read c = line_is

pub returns-clause-spelled : goal.returns-clause-spelled
returns-clause-spelled c = λ l x h. line_from x l h
