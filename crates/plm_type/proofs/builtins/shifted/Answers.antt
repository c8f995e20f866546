use Rattle.std.proofs.Common.{sym, ◌∙◌}
use Rattle.plm_type.proofs.Parts.{not_two}
use Rattle.plm_type.proofs.builtins.shifted.Goals as goal

pub returns-then-len-ne2 : goal.returns-then-len-ne2
returns-then-len-ne2 c = sym (not_two c.args.line.module c.args.line.line c.args.operator c.args.width c.args.trees.items (λ q. c.if-len-ne2.true (c.len.ensures ∙ (c.args.trees.ok.0 ∙ q))))
