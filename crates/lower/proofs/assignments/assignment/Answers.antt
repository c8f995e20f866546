use Rattle.std.proofs.Common.{◌≡◌, Some, OnOk, ap, sym, ◌∙◌, subst, arith}
use Rattle.std.proofs.lemmas.Grind.{common_steps}
use Rattle.plm_type.specs.View.{expression_of, procedures_of, target_of, targets_of}
use Rattle.lower.specs.Expressions.{folded}
use Rattle.lower.specs.Statements.{known_store}
use Rattle.lower.proofs.Stores.{stored_code}
use Rattle.lower.proofs.assignments.assignment.Goals as goal

pub returns-in_ok-subscripts-in-Some-clause-code : goal.returns-in_ok-subscripts-in-Some-clause-code
returns-in_ok-subscripts-in-Some-clause-code c =
    let t = target_of c.args.first.now in
    let us = c.args.others.now in
    let e = expression_of c.args.value.now in
    let store : known_store (targets_of t us) (folded e) ≡ Some c.in-Some.store = ap (known_store (targets_of t us)) (sym c.in_ok-number.ensures.value) ∙ sym c.known_store.ensures ∙ c.in-Some.is in
    let is = stored_code (procedures_of c.args.callees.procedures.now) t us e c.take_bytes-byte.result c.in-Some.store store c.args.code.now.items in
    subst (λ code. OnOk c.put.result (c.put.new.code.items ≡ code)) is (grind (arith, common_steps))
