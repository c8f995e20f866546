use Rattle.std.proofs.Common.{◌≡◌, [], drop, ap, sym, ◌∙◌, arith}
use Rattle.std.proofs.lemmas.List.{drop_all}
use Rattle.plm_type.specs.View.{target_of}
use Rattle.lower.proofs.LowTrees.{taking, targets_take}
use Rattle.lower.proofs.low_bytes.take_bytes.Goals as goal

pub returns : goal.returns
returns c =
    let ts = c.args.others.now in
    let k = c.loop-other.other-index in
    let none : drop k ts ≡ [] = drop_all k ts (omega (arith, c.loop-other-test.false)) in
    sym (ap (taking c.loop-other.all) none) ∙ c.loop-other.invariant ∙ ap (λ b. taking b ts) c.takes_byte-all.ensures ∙ sym (targets_take (target_of c.args.first.now) ts)
