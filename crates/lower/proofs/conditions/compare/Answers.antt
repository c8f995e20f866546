use Rattle.std.proofs.Common.{◌≡◌, ◌++◌, OnOk, ap, subst, sym}
use Rattle.plm_type.specs.View.{expression_of, chained, procedures_of}
use Rattle.lower.specs.Expressions.{operand_of, beside, expression_code}
use Rattle.lower.specs.Conditions.{compared}
use Rattle.lower.specs.LowBytes.{low_code}
use Rattle.lower.proofs.Known.{chain_given}
use Rattle.lower.proofs.LowTrees.{low_given_code}
use Rattle.lower.proofs.conditions.compare.Goals as goal

pub returns-then-bytes-clause-code : goal.returns-then-bytes-clause-code
returns-then-bytes-clause-code c =
    let ps = procedures_of c.args.callees.procedures.now in
    let e = chained (expression_of c.args.first.now) c.args.others.now in
    let b = expression_of c.args.last.now in
    let after = c.low_operands in
    subst (λ y. OnOk after.result (after.new.code.items ≡ c.args.code.now.items ++ compared y (low_code ps e ++ beside (operand_of b) (low_code ps b)) (expression_code ps e ++ beside (operand_of b) (expression_code ps b)))) (sym c.if-bytes.true)
    (subst (λ x. OnOk after.result (after.new.code.items ≡ c.args.code.now.items ++ x)) (ap (λ l. l ++ beside (operand_of b) (low_code ps b)) (low_given_code ps e)) after.ensures.code)

pub returns-else-bytes-clause-code : goal.returns-else-bytes-clause-code
returns-else-bytes-clause-code c =
    let ps = procedures_of c.args.callees.procedures.now in
    let b = expression_of c.args.last.now in
    let after = c.whole_operands in
    let e = chained (expression_of c.args.first.now) c.args.others.now in
    subst (λ y. OnOk after.result (after.new.code.items ≡ c.args.code.now.items ++ compared y (low_code ps e ++ beside (operand_of b) (low_code ps b)) (expression_code ps e ++ beside (operand_of b) (expression_code ps b)))) (sym c.if-bytes.false)
    (subst (λ x. OnOk after.result (after.new.code.items ≡ c.args.code.now.items ++ x)) (ap (λ l. l ++ beside (operand_of b) (expression_code ps b)) (chain_given ps (expression_of c.args.first.now) c.args.others.now)) after.ensures.code)
