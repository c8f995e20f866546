use Rattle.std.proofs.Common.{[], ◌∙◌}
use Rattle.plm_type.specs.Expressions as spec
use Rattle.plm_type.specs.Inner.Typer.{said, target_said}
use Rattle.plm_type.proofs.Said.{typed_moved, typed_at, embedded_wanted}
use Rattle.plm_type.proofs.typer.Typer.embedded.Goals as goal

pub returns : goal.returns
returns c =
    let m = c.args.self.now.module in
    let noted = c.wanted.new.faults.items in
    let pair = c.in_ok-target.ensures in
    let value = typed_at noted pair.1 c.wanted.ensures in
    let path = (λ j. spec.assigned m c.args.place (target_said (pair.0 j) noted) (said c.in_ok-target.value []))
    ∙ embedded_wanted m c.args.place (target_said c.args.target c.args.faults.now.items) (said c.args.value []) _ value in
    typed_moved c.assigned.result c.assigned.new.faults.items path c.assigned.ensures
