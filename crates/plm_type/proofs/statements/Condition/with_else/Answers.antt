use Rattle.plm_type.proofs.Rows.{if_tree}
use Rattle.plm_type.proofs.statements.Condition.with_else.Goals as goal

pub returns : goal.returns
returns c = if_tree c.args.self.test c.args.self.then c.args.other
