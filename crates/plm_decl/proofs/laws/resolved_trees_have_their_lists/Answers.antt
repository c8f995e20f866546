use Rattle.plm_decl.proofs.ResolvedRows.{lists_are_theirs}
use Rattle.plm_decl.proofs.laws.resolved_trees_have_their_lists.Goals as goal

pub returns : goal.returns
returns c = lists_are_theirs
