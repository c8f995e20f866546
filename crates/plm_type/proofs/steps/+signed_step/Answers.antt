use Rattle.std.proofs.Common.{◌≡◌, None, sym, ap, ◌∙◌}
use Rattle.plm_decl.specs.Resolved.{ExpressionR}
use Rattle.plm_decl.specs.ResolvedView as resolved
use Rattle.plm_type.specs.Steps.{signed_step}
use Rattle.plm_type.proofs.Leaning.{IsJoined, leaned_alone, leaned_joined}
use Rattle.plm_type.proofs.Parts.{is_zero, not_zero}
use Rattle.plm_type.proofs.steps.+signed_step.Goals as goal

no_step : (e : ExpressionR) → IsJoined e → None ≡ signed_step e
no_step e joined = sym (ap signed_step joined.is)

pub returns-then-is_empty : goal.returns-then-is_empty
returns-then-is_empty t c =
    let e = resolved.expression_of c.in-Chain.first.value in
    let os = c.in-Chain.others in
    let alone = leaned_alone e os.items (sym os.ok.0 ∙ is_zero _ (sym c.is_empty.ensures ∙ c.if-is_empty.true)) in
    let is = (λ j. resolved.expression_of (c.deref-then-is_empty.ensures j)) ∙ sym (ap resolved.expression_of c.in-Chain.is ∙ c.resolved_trees_have_their_lists.ensures.chain c.in-Chain.first os ∙ alone) in
    c.signed_step.ensures ∙ ap signed_step is

pub returns-else-is_empty : goal.returns-else-is_empty
returns-else-is_empty t c =
    let e = resolved.expression_of c.in-Chain.first.value in
    let os = c.in-Chain.others in
    let more = leaned_joined e os.items (λ z. not_zero _ (sym c.is_empty.ensures ∙ c.if-is_empty.false) (os.ok.0 ∙ z)) in
    let is = sym (ap resolved.expression_of c.in-Chain.is ∙ c.resolved_trees_have_their_lists.ensures.chain c.in-Chain.first os) in
    no_step _ more ∙ ap signed_step is
