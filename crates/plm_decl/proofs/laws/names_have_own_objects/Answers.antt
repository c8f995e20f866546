use Rattle.plm_decl.proofs.Objects.{own_objects}
use Rattle.plm_decl.proofs.OwnNames.{own_names_have_objects}
use Rattle.plm_decl.proofs.laws.names_have_own_objects.Goals as goal

pub returns-clause-element : goal.returns-clause-element
returns-clause-element c = own_objects

pub returns-clause-program : goal.returns-clause-program
returns-clause-program c = own_names_have_objects
