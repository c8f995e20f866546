use Rattle.std.proofs.Common.{◌≡◌, ◌++◌, subst, sym, arith}
use Rattle.std.proofs.lemmas.Grind.{common_steps}
use Rattle.plm_type.specs.View.{expression_of, procedures_of}
use Rattle.lower.specs.Expressions.{expression_code}
use Rattle.lower.proofs.LowTrees.{low_port_received}
use Rattle.lower.proofs.low_bytes.low_receive.Goals as goal

pub returns-clause-code : goal.returns-clause-code
returns-clause-code c =
    let after = c.put in
    let ps = procedures_of c.args.callees.procedures.now in
    let e = expression_of c.args.port.now in
    subst (λ x. after.new.code.items ≡ c.args.code.now.items ++ x) (sym (low_port_received e (expression_code ps e))) (grind (arith, common_steps))
