use Rattle.std.proofs.Common.{◌≡◌, ◌++◌, subst, sym, arith}
use Rattle.std.proofs.lemmas.Grind.{common_steps}
use Rattle.plm_type.specs.View.{target_of, procedures_of}
use Rattle.lower.proofs.Trees.{targets_coded}
use Rattle.lower.proofs.assignments.assign.Goals as goal

pub returns-clause-code : goal.returns-clause-code
returns-clause-code c =
    let is = targets_coded (procedures_of c.args.callees.procedures.now) (target_of c.args.first.now) c.args.others.now in
    subst (λ e. c.loop-other.code.items ≡ c.args.code.now.items ++ e) (sym is) (grind (arith, common_steps))
