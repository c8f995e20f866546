use Rattle.std.proofs.Common.{◌∙◌}
use Rattle.plm_type.specs.Rest.{Embedded}
use Rattle.plm_type.specs.View as view
use Rattle.plm_type.proofs.Said.{boxed_at}
use Rattle.plm_type.proofs.expressions.assigned.Goals as goal

pub returns : goal.returns
returns c =
    let pair = c.in_ok-value.ensures in
    let target = boxed_at pair.1 c.new.ensures.ok in
    let value = c.in_ok-boxed.ensures.ok ∙ pair.0 in
    λ j. Embedded (view.target_of (target j)) (view.expression_of (value j))
