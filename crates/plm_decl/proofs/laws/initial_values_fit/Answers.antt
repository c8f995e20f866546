use Rattle.plm_decl.proofs.FitsStatements.{initial_values_fit, initial_bytes_fit}
use Rattle.plm_decl.proofs.laws.initial_values_fit.Goals as goal

pub returns-clause-fit : goal.returns-clause-fit
returns-clause-fit c = initial_values_fit

pub returns-clause-bytes : goal.returns-clause-bytes
returns-clause-bytes c = initial_bytes_fit
