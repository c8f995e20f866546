use Rattle.std.proofs.Common.{◌≡◌, ◌++◌, OnOk, subst, sym, arith}
use Rattle.std.proofs.lemmas.Grind.{common_steps}
use Rattle.lower.proofs.Trees.{not_based}
use Rattle.lower.proofs.LowTrees.{low_reading_behind}
use Rattle.lower.proofs.low_bytes.low_read.Goals as goal

pub returns-in-len1-up-clause-code : goal.returns-in-len1-up-clause-code
returns-in-len1-up-clause-code c =
    let after = c.put-in-len1-up in
    let is = low_reading_behind c.args.anchor c.args.offset c.args.subscripts.now (not_based c.args.anchor c.in-InObject.is) c.in-len1-up.len_at_least in
    subst (λ e. OnOk after.result (after.new.code.items ≡ c.args.code.now.items ++ e)) (sym is) (grind (arith, common_steps))
