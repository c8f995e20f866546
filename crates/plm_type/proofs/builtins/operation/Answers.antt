use Rattle.std.proofs.Common.{◌≡◌, ◌∷◌, [], sym, ap, ◌∙◌}
use Rattle.std.specs.Global.{Vec}
use Rattle.plm_type.specs.declared.program.Operation.{Operation}
use Rattle.plm_type.specs.Rest as rest
use Rattle.plm_type.specs.View.{expression_of, chained}
use Rattle.plm_type.proofs.Rows.{operation_row}
use Rattle.plm_type.proofs.Parts.{chain_pushed}
use Rattle.plm_type.proofs.Said.{at_ok}
use Rattle.plm_type.proofs.builtins.operation.Goals as goal

pub returns-in-Chain : goal.returns-in-Chain
returns-in-Chain c =
    let o = c.args.operation in
    let e = expression_of c.in-Chain.first.value in
    operation_row c.push.new.self e
    ∙ ap (chained e) c.in_ok-push.ensures.items
    ∙ chain_pushed e c.in-Chain.others.items o
    ∙ ap (λ (l : rest.Expression). rest.Binary o.line.module o.line.line o.operation o.width l (expression_of o.operand))
    (sym (ap expression_of c.in-Chain.is ∙ operation_row c.in-Chain.others e))

pub returns : goal.returns
returns c =
    let o = c.args.operation in
    let pair = c.in_ok-left.ensures in
    let e = expression_of c.in_ok-new.field-0.value in
    operation_row c.in_ok-left.others e
    ∙ ap (chained e) (at_ok (λ (l : Vec Operation). l.items ≡ o ∷ []) pair.1 c.alone.ensures)
    ∙ ap (λ l. rest.Binary o.line.module o.line.line o.operation o.width (expression_of l) (expression_of o.operand)) (c.in_ok-new.ensures.ok ∙ pair.0)
