use Rattle.std.proofs.Common.{sym, ap, ◌∙◌}
use Rattle.plm_decl.specs.ResolvedView as resolved
use Rattle.plm_type.specs.Faults as found
use Rattle.plm_type.proofs.Leaning.{leaned_first}
use Rattle.plm_type.proofs.expressions.+first_place.Goals as goal

pub returns-in-Chain : goal.returns-in-Chain
returns-in-Chain t c =
    let e = resolved.expression_of c.in-Chain.first.value in
    let os = c.in-Chain.others in
    c.first_place.ensures ∙ (λ j. found.first_place (resolved.expression_of (c.deref.ensures j)))
    ∙ sym (ap found.first_place (ap resolved.expression_of c.in-Chain.is ∙ c.resolved_trees_have_their_lists.ensures.chain c.in-Chain.first os) ∙ leaned_first e os.items)
