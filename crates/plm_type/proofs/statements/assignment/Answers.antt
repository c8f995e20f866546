use Rattle.std.proofs.Common.{sym, ◌∙◌}
use Rattle.plm_type.specs.View as view
use Rattle.plm_type.proofs.Lists.{assigned}
use Rattle.plm_type.proofs.Parts.{not_zero}
use Rattle.plm_type.proofs.statements.assignment.Goals as goal

pub returns : goal.returns
returns c =
    assigned c.args.targets.items (view.expression_of c.args.value) c.remove-first.result c.remove-first.new.self.items
    (λ z. not_zero _ (sym c.is_empty.ensures ∙ c.if-is_empty.false) (c.args.targets.ok.0 ∙ z)) c.remove-first.ensures.value c.remove-first.ensures.by_index.2
