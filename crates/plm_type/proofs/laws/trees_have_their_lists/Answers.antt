use Rattle.plm_type.proofs.Rows.{lists_are_theirs}
use Rattle.plm_type.proofs.laws.trees_have_their_lists.Goals as goal

pub returns : goal.returns
returns c = lists_are_theirs
