use Rattle.std.proofs.Common.{◌≡◌, ◌+◌, ◌++◌, IfOk, length, ap, subst, sym, ◌∙◌}
use Rattle.plm_type.specs.View.{expression_of, procedures_of, scalar_of}
use Rattle.lower.specs.Expressions.{expression_code}
use Rattle.lower.specs.Statements.{add_pushed}
use Rattle.lower.specs.Inner.Expressions.{unless_found, unknown_code}
use Rattle.lower.proofs.Known.{round_by_number, round_by_stack}
use Rattle.lower.proofs.loops.next_round.Goals as goal

pub returns-in-Some-clause-code : goal.returns-in-Some-clause-code
returns-in-Some-clause-code c =
    let e = expression_of c.args.step.now in
    let ce = expression_code (procedures_of c.args.callees.procedures.now) e in
    let is = round_by_number c.args.counting (scalar_of c.args.index) e c.in-Some.number (sym c.in_ok-value.ensures.value ∙ c.in-Some.is) ce c.args.before in
    subst (λ x. IfOk c.next_by_number.result (λ r. r.items ≡ x)) is c.next_by_number.ensures.code

pub returns-in-None-clause-code : goal.returns-in-None-clause-code
returns-in-None-clause-code c =
    let ps = procedures_of c.args.callees.procedures.now in
    let e = expression_of c.args.step.now in
    let ce = expression_code ps e in
    let x = scalar_of c.args.index in
    let none = sym c.in_ok-value.ensures.value ∙ c.in-None.is in
    let at = c.in_ok-value.ensures.code ∙ ap (λ l. l ++ unknown_code ps e) c.new-code.ensures.items ∙ ap (λ z. unless_found z ce) none in
    let is = ap (λ l. l ++ add_pushed x (c.args.before + length l)) at ∙ round_by_stack c.args.counting x e none ce c.args.before in
    subst (λ l. IfOk c.next_by_stack.result (λ r. r.items ≡ l)) is c.next_by_stack.ensures.code
