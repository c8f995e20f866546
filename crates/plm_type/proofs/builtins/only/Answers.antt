use Rattle.std.proofs.Common.{sym, ◌∙◌}
use Rattle.plm_type.proofs.Parts.{not_one}
use Rattle.plm_type.proofs.builtins.only.Goals as goal

pub returns : goal.returns
returns c = sym (not_one c.args.trees.items (λ q. c.if-len-eq1.false (c.len.ensures ∙ (c.args.trees.ok.0 ∙ q))))
