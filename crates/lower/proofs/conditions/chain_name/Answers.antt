use Rattle.std.proofs.Common.{sym}
use Rattle.plm_type.specs.View.{expression_of}
use Rattle.lower.proofs.Trees.{chain_is}
use Rattle.lower.proofs.conditions.chain_name.Goals as goal

pub returns-in-len1-up : goal.returns-in-len1-up
returns-in-len1-up c = sym (chain_is (expression_of c.args.first.now) c.args.others.now c.in-len1-up.len_at_least)
