use Rattle.std.proofs.Common.{[], ◌∙◌}
use Rattle.plm_type.specs.Expressions as spec
use Rattle.plm_type.specs.Inner.Typer.{said}
use Rattle.plm_type.proofs.Said.{typed_moved, typed_at, binary_said}
use Rattle.plm_type.proofs.typer.Typer.binary.Goals as goal

pub returns : goal.returns
returns c =
    let m = c.args.self.now.module in
    let o = c.args.operator in
    let left = c.beside.new.faults.items in
    let right = c.beside-2.new.faults.items in
    let first = c.in_ok-right.ensures in
    let second = c.in_ok-x.ensures in
    let x = typed_at left first.1 c.beside.ensures in
    let y = typed_at right second.1 c.beside-2.ensures ∙ (λ j. spec.wanted m (spec.wanted_beside o c.args.left.scalar) (said (first.0 j) left)) in
    let path = (λ j. spec.operated_on m c.args.place o c.args.first c.with_operator-numbers.result (said (second.0 j) right) (said c.in_ok-x.y []))
    ∙ binary_said m c.args.place o c.args.first c.with_operator-numbers.result (said c.args.left c.args.faults.now.items) (said c.args.right []) _ _ c.with_operator-numbers.ensures x y in
    typed_moved c.operated_on.result c.operated_on.new.faults.items path c.operated_on.ensures
