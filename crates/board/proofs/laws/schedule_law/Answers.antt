use Rattle.board.proofs.Spelled.{complete, sound}
use Rattle.board.proofs.laws.schedule_law.Goals as goal

pub returns-clause-spelled : goal.returns-clause-spelled
returns-clause-spelled c = complete

pub returns-clause-read : goal.returns-clause-read
returns-clause-read c = sound
