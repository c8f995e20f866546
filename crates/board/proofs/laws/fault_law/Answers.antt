use Rattle.board.specs.Spelling.{lines_in}
use Rattle.board.proofs.Faults.{answered, has}
use Rattle.board.proofs.laws.fault_law.Goals as goal

pub returns-clause-answered : goal.returns-clause-answered
returns-clause-answered c = λ text. answered (lines_in text)

pub returns-clause-has : goal.returns-clause-has
returns-clause-has c = λ text. has (lines_in text)
