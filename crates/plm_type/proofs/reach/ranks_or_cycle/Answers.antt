use Rattle.plm_type.specs.Inner.Reach.{rows}
use Rattle.plm_type.proofs.Ordering.{no_cycle}
use Rattle.plm_type.proofs.reach.ranks_or_cycle.Goals as goal

pub returns-then-are_ranks-clause-none : goal.returns-then-are_ranks-clause-none
returns-then-are_ranks-clause-none c = no_cycle c.deref.result.now (rows c.args.graph.now) (c.are_ranks.ensures c.if-are_ranks.true)
