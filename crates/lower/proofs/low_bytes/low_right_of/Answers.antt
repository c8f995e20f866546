use Rattle.std.proofs.Common.{◌≡◌, ◌++◌, OnOk, subst}
use Rattle.plm_type.specs.View.{expression_of, procedures_of}
use Rattle.lower.specs.Expressions.{operand_of}
use Rattle.lower.specs.LowBytes.{low_code}
use Rattle.lower.proofs.LowTrees.{low_beside_alone}
use Rattle.lower.proofs.low_bytes.low_right_of.Goals as goal

pub returns-clause-code : goal.returns-clause-code
returns-clause-code c =
    let e = expression_of c.args.tree.now in
    let ce = low_code (procedures_of c.args.callees.procedures.now) e in
    subst (λ x. OnOk c.low_right.result (c.low_right.new.code.items ≡ c.args.code.now.items ++ x)) (low_beside_alone (operand_of e) ce) c.low_right.ensures.code
