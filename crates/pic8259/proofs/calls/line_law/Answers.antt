use Rattle.pic8259.proofs.Priority.{line_up, line_mode, line_level}
use Rattle.pic8259.proofs.calls.line_law.Goals as goal

pub returns-clause-up : goal.returns-clause-up
returns-clause-up c = line_up

pub returns-clause-mode : goal.returns-clause-mode
returns-clause-mode c = line_mode

pub returns-clause-level : goal.returns-clause-level
returns-clause-level c = line_level
