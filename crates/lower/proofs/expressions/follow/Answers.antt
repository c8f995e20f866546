use Rattle.std.proofs.Common.{◌≡◌, ◌++◌, OnOk, subst, sym, arith}
use Rattle.std.proofs.lemmas.Grind.{common_steps}
use Rattle.lower.proofs.Trees.{based_behind}
use Rattle.lower.proofs.expressions.follow.Goals as goal

pub returns-in_ok-put-in-len1-up-clause-code : goal.returns-in_ok-put-in-len1-up-clause-code
returns-in_ok-put-in-len1-up-clause-code c =
    let after = c.step-in-len1-up in
    subst (λ e. OnOk after.result (after.new.code.items ≡ c.args.code.now.items ++ e))
    (sym (based_behind c.args.base c.args.offset c.args.subscripts.now c.in-len1-up.len_at_least)) (grind (arith, common_steps))
