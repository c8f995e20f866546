use Rattle.std.proofs.Common.{◌≡◌, ◌++◌, OnOk, subst}
use Rattle.plm_type.specs.View.{expression_of, procedures_of}
use Rattle.lower.specs.Expressions.{operand_of, expression_code}
use Rattle.lower.proofs.Known.{beside_alone}
use Rattle.lower.proofs.expressions.right_of.Goals as goal

pub returns-clause-code : goal.returns-clause-code
returns-clause-code c =
    let e = expression_of c.args.tree.now in
    let ce = expression_code (procedures_of c.args.callees.procedures.now) e in
    subst (λ x. OnOk c.right.result (c.right.new.code.items ≡ c.args.code.now.items ++ x)) (beside_alone (operand_of e) ce) c.right.ensures.code
