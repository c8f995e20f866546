use Rattle.std.proofs.Common.{[], Some, ap, ◌∙◌}
use Rattle.plm_type.specs.declared.program.Anchor.TheVariants as anchor
use Rattle.plm_type.specs.declared.numbers.Numbers.TheVariants.{Other}
use Rattle.plm_type.specs.Rest as rest
use Rattle.plm_type.specs.View as view
use Rattle.plm_type.proofs.Parts.{reference_made}
use Rattle.plm_type.proofs.typer.Typer.constants.Goals as goal

pub returns : goal.returns
returns c =
    let k = c.args.object in
    let made = c.line.ensures in
    let tree = ap rest.Location (reference_made c.line.result (anchor.InObject k 0 c.object_size-size.result) 0 c.new.result
    ∙ (λ j. rest.Refer (made.module j) (made.line j) (rest.InObject k 0 (c.object_size-size.ensures j)) 0 (view.subscripts_of (c.new.ensures.items j)))) in
    λ j. record { tree = tree j; scalar = Some (c.location_type.ensures j); numbers = Other; faults = [] }
