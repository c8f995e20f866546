use Rattle.std.proofs.Common.{List, ap, ◌∙◌}
use Rattle.plm_decl.specs.declared.names.Variable.{Variable}
use Rattle.plm_type.specs.Rest as rest
use Rattle.plm_type.specs.Shapes.{anchor_for}
use Rattle.plm_type.specs.View as view
use Rattle.plm_type.proofs.Parts.{reference_made}
use Rattle.plm_type.proofs.typer.Typer.refer_alone.Goals as goal

pub returns : goal.returns
returns c =
    let made = c.line.ensures in
    let anchored = c.anchor.ensures ∙ ap (λ (l : List Variable). anchor_for l c.args.variable.now) c.deref.ensures.value in
    reference_made c.line.result c.anchor.result 0 c.new.result
    ∙ (λ j. rest.Refer (made.module j) (made.line j) (anchored j) 0 (view.subscripts_of (c.new.ensures.items j)))
