use Rattle.plm_decl.proofs.PlacedNames.{on_the_screen, outside_the_screen, in_its_variable, at_their_location}
use Rattle.plm_decl.proofs.laws.names_lie_where_at_says.Goals as goal

pub returns-clause-number : goal.returns-clause-number
returns-clause-number c = on_the_screen

pub returns-clause-outside : goal.returns-clause-outside
returns-clause-outside c = outside_the_screen

pub returns-clause-location : goal.returns-clause-location
returns-clause-location c = in_its_variable

pub returns-clause-names : goal.returns-clause-names
returns-clause-names c = at_their_location
