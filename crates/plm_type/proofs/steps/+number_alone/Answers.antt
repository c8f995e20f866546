use Rattle.std.proofs.Common.{◌≡◌, None, sym, ap, ◌∙◌}
use Rattle.plm_decl.specs.Resolved.{ExpressionR}
use Rattle.plm_decl.specs.ResolvedView as resolved
use Rattle.plm_type.specs.Steps.{number_alone}
use Rattle.plm_type.proofs.Leaning.{IsJoined, leaned_alone, leaned_joined}
use Rattle.plm_type.proofs.Parts.{is_zero, not_zero}
use Rattle.plm_type.proofs.steps.+number_alone.Goals as goal

no_number : (e : ExpressionR) → IsJoined e → None ≡ number_alone e
no_number e joined = sym (ap number_alone joined.is)

pub returns-then-is_empty : goal.returns-then-is_empty
returns-then-is_empty t c =
    let e = resolved.expression_of c.in-Chain.first.value in
    let os = c.in-Chain.others in
    let alone = leaned_alone e os.items (sym os.ok.0 ∙ is_zero _ (sym c.is_empty.ensures ∙ c.if-is_empty.true)) in
    let is = (λ j. resolved.expression_of (c.deref.ensures j)) ∙ sym (ap resolved.expression_of c.in-Chain.is ∙ c.resolved_trees_have_their_lists.ensures.chain c.in-Chain.first os ∙ alone) in
    c.number_alone.ensures ∙ ap number_alone is

pub returns-else-is_empty : goal.returns-else-is_empty
returns-else-is_empty t c =
    let e = resolved.expression_of c.in-Chain.first.value in
    let os = c.in-Chain.others in
    let more = leaned_joined e os.items (λ z. not_zero _ (sym c.is_empty.ensures ∙ c.if-is_empty.false) (os.ok.0 ∙ z)) in
    let is = sym (ap resolved.expression_of c.in-Chain.is ∙ c.resolved_trees_have_their_lists.ensures.chain c.in-Chain.first os) in
    no_number _ more ∙ ap number_alone is
