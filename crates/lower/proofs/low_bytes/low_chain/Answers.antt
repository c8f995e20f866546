use Rattle.std.proofs.Common.{◌≡◌, ◌++◌, OnOk, IfOk, subst, sym, ◌∙◌, arith}
use Rattle.std.proofs.lemmas.Grind.{common_steps}
use Rattle.plm_type.specs.View.{expression_of, procedures_of}
use Rattle.lower.specs.Expressions.{folded}
use Rattle.lower.specs.Inner.LowBytes.{whole_count}
use Rattle.lower.proofs.Known.{chain_folded}
use Rattle.lower.proofs.LowTrees.{low_split, value_split}
use Rattle.lower.proofs.low_bytes.low_chain.Goals as goal

pub returns-clause-code : goal.returns-clause-code
returns-clause-code c =
    let after = c.low_operations in
    let is = low_split (procedures_of c.args.callees.procedures.now) (expression_of c.args.first.now) c.args.operations.now in
    subst (λ e. OnOk after.result (after.new.code.items ≡ c.args.code.now.items ++ e)) (sym is) (grind (arith, common_steps))

pub returns-clause-value : goal.returns-clause-value
returns-clause-value c =
    let after = c.low_operations in
    let os = c.args.operations.now in
    let e = expression_of c.args.first.now in
    let is = chain_folded e os ∙ sym (value_split (folded e) os (whole_count os)) in
    subst (λ z. IfOk after.result (λ v. v ≡ z)) (sym is) (grind (arith, common_steps))
