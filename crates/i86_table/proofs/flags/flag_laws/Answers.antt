use Rattle.i86_table.proofs.FlagProofs.{has_same, has_other, set_alone}
use Rattle.i86_table.proofs.flags.flag_laws.Goals as goal

pub returns-clause-same : goal.returns-clause-same
returns-clause-same c = has_same

pub returns-clause-others : goal.returns-clause-others
returns-clause-others c = has_other

pub returns-clause-alone : goal.returns-clause-alone
returns-clause-alone c = set_alone
