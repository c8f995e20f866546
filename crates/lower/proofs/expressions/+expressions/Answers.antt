use Rattle.std.proofs.Common.{◌≡◌, ◌++◌, OnOk, IfOk, [], ◌∷◌, Some, slice_get, length, take, ap, subst, sym, ◌∙◌, arith, rules, append_assoc, append-nil}
use Rattle.std.proofs.Math.Seq.{take-append_seam}
use Rattle.std.proofs.lemmas.Grind.{common_steps}
use Rattle.icode.specs.declared.instruction.Instruction.TheVariants as op
use Rattle.plm_type.specs.View.{expression_of, expressions_of, subscripts_of, target_of, procedures_of, scalar_of}
use Rattle.plm_type.specs.Next.{parameters_of}
use Rattle.lower.specs.Expressions.{folded, Name, Number, Computed, operand_of, place_of, stored_in, argument_code, second_passed, expression_code, subscripts_code, target_code, pushed_code, first_code, second_code}
use Rattle.lower.specs.Inner.Expressions.{unless_found, computed_beside, binary_value_of, binary_code_of, sent, unknown_code}
use Rattle.lower.specs.Inner.Put.{operand_shown}
use Rattle.lower.proofs.Known.{argument_computed, name_code, known_code, sent_beside, given_code, unary_unknown, chain_unknown, chain_folded, number_is, computed_is, name_is, beside_put, port_received, port_sent}
use Rattle.lower.proofs.Trees.{call_of_many, other_of_two, not_based, writing_behind}
use Rattle.lower.proofs.expressions.+expressions.Goals as goal

pub expression-returns-clause-code : goal.expression-returns-clause-code
expression-returns-clause-code t c =
    let after = c.give in
    subst (λ e. OnOk after.result (after.new.code.items ≡ c.args.code.now.items ++ e)) (given_code (procedures_of c.args.callees.procedures.now) (expression_of c.args.tree.now)) (grind (arith, common_steps))

pub known-returns-in-Call-clause-code : goal.known-returns-in-Call-clause-code
known-returns-in-Call-clause-code t c =
    let after = c.value_of_call in
    subst (λ e. OnOk after.result (after.new.code.items ≡ c.args.code.now.items ++ unknown_code (procedures_of c.args.callees.procedures.now) e))
    (sym (ap expression_of c.in-Call.is ∙ c.trees_have_their_lists.ensures.call c.in-Call.number c.in-Call.arguments)) (grind (arith, common_steps))

pub known-returns-in-Call-clause-value : goal.known-returns-in-Call-clause-value
known-returns-in-Call-clause-value t c =
    subst (λ e. IfOk c.value_of_call.result (λ v. v ≡ folded e)) (sym (ap expression_of c.in-Call.is ∙ c.trees_have_their_lists.ensures.call c.in-Call.number c.in-Call.arguments)) c.value_of_call.ensures.value

pub known-returns-in_ok-left-in-Chain-clause-code : goal.known-returns-in_ok-left-in-Chain-clause-code
known-returns-in_ok-left-in-Chain-clause-code t c =
    let after = c.chain in
    let ps = procedures_of c.args.callees.procedures.now in
    let left = expression_of c.in-Chain.first.value in
    let is = ap (unknown_code ps) (ap expression_of c.in-Chain.is ∙ c.trees_have_their_lists.ensures.chain c.in-Chain.first c.in-Chain.operations) ∙ chain_unknown ps left c.in-Chain.operations.items in
    subst (λ e. OnOk after.result (after.new.code.items ≡ c.args.code.now.items ++ e)) (sym is) (grind (arith, common_steps))

pub known-returns-in_ok-left-in-Chain-clause-value : goal.known-returns-in_ok-left-in-Chain-clause-value
known-returns-in_ok-left-in-Chain-clause-value t c =
    let after = c.chain in
    let left = expression_of c.in-Chain.first.value in
    let is = ap folded (ap expression_of c.in-Chain.is ∙ c.trees_have_their_lists.ensures.chain c.in-Chain.first c.in-Chain.operations) ∙ chain_folded left c.in-Chain.operations.items in
    subst (λ z. IfOk after.result (λ v. v ≡ z)) (sym is) (grind (arith, common_steps))

pub known-returns-in_ok-value-in-Unary-clause-code : goal.known-returns-in_ok-value-in-Unary-clause-code
known-returns-in_ok-value-in-Unary-clause-code t c =
    let after = c.unary in
    let ps = procedures_of c.args.callees.procedures.now in
    let is = ap (unknown_code ps) (ap expression_of c.in-Unary.is) ∙ unary_unknown ps c.in-Unary.operation c.in-Unary.width (expression_of c.in-Unary.operand.value) in
    subst (λ e. OnOk after.result (after.new.code.items ≡ c.args.code.now.items ++ e)) (sym is) (grind (arith, common_steps))

pub known-returns-in-Input-clause-code : goal.known-returns-in-Input-clause-code
known-returns-in-Input-clause-code t c =
    let after = c.receive in
    let ps = procedures_of c.args.callees.procedures.now in
    let port = expression_of c.in-Input.port.value in
    let is = ap (unknown_code ps) (ap expression_of c.in-Input.is) ∙ port_received c.in-Input.width port (expression_code ps port) in
    subst (λ e. OnOk after.result (after.new.code.items ≡ c.args.code.now.items ++ e)) (sym is) (grind (arith, common_steps))

pub operate-returns-in-Number-clause-code : goal.operate-returns-in-Number-clause-code
operate-returns-in-Number-clause-code t c =
    let after = c.with_number in
    let old = c.args.code.now.items in
    let left = c.args.left in
    let o = c.args.operation.now in
    let e = expression_of o.operand in
    let ce = expression_code (procedures_of c.args.callees.procedures.now) e in
    let is : operand_of e ≡ Number c.in-Number.value = sym c.in_ok-operand.ensures.operand ∙ ap operand_shown c.in-Number.is in
    subst (λ q. OnOk after.result (after.new.code.items ≡ old ++ binary_code_of left o.operation o.width q ce)) (sym is)
    (subst (λ l. OnOk after.result (after.new.code.items ≡ l ++ binary_code_of left o.operation o.width (Number c.in-Number.value) []))
    (c.in_ok-operand.ensures.code ∙ ap (λ q. old ++ computed_beside left q ce) is ∙ append-nil old) after.ensures.code)

pub operate-returns-in-Number-clause-value : goal.operate-returns-in-Number-clause-value
operate-returns-in-Number-clause-value t c =
    let after = c.with_number in
    let o = c.args.operation.now in
    let is : operand_of (expression_of o.operand) ≡ Number c.in-Number.value = sym c.in_ok-operand.ensures.operand ∙ ap operand_shown c.in-Number.is in
    subst (λ q. IfOk after.result (λ v. v ≡ binary_value_of c.args.left o.operation o.width q)) (sym is) after.ensures.value

pub right-returns-in-Some-clause-code : goal.right-returns-in-Some-clause-code
right-returns-in-Some-clause-code t c =
    let e = expression_of c.args.tree.now in
    let ce = expression_code (procedures_of c.args.callees.procedures.now) e in
    let is = name_is (operand_of e) c.in-Some.width c.in-Some.at (sym c.as_name.ensures ∙ c.in-Some.is) in
    sym (append-nil c.args.code.now.items) ∙ ap (λ q. c.args.code.now.items ++ computed_beside c.args.left q ce) (sym is)

pub right-returns-in-Some-clause-operand : goal.right-returns-in-Some-clause-operand
right-returns-in-Some-clause-operand t c = sym (name_is (operand_of (expression_of c.args.tree.now)) c.in-Some.width c.in-Some.at (sym c.as_name.ensures ∙ c.in-Some.is))

pub beside-returns-in-Some-clause-code : goal.beside-returns-in-Some-clause-code
beside-returns-in-Some-clause-code t c =
    let old = c.args.code.now.items in
    let left = c.args.left in
    let ps = procedures_of c.args.callees.procedures.now in
    let e = expression_of c.args.tree.now in
    let cu = unknown_code ps e in
    let count : c.len-before.result ≡ length old = search rules in
    let whole = c.in_ok-value.ensures.code ∙ ap (λ l. l ++ cu) (c.in_ok-put.ensures.code ∙ ap (λ l. l ++ op.Push ∷ []) c.in_ok-give.ensures.code) ∙ beside_put left old cu in
    c.truncate.ensures.items ∙ ap (λ n. take n c.known.new.code.items) count ∙ ap (take (length old)) whole ∙ take-append_seam old (computed_beside left Computed cu) ∙ sym (append-nil old)
    ∙ ap (λ q. old ++ computed_beside left q (expression_code ps e)) (sym (number_is e c.in-Some.number (sym c.in_ok-value.ensures.value ∙ c.in-Some.is)))

pub beside-returns-in-Some-clause-operand : goal.beside-returns-in-Some-clause-operand
beside-returns-in-Some-clause-operand t c = sym (number_is (expression_of c.args.tree.now) c.in-Some.number (sym c.in_ok-value.ensures.value ∙ c.in-Some.is))

pub beside-returns-in-None-clause-code : goal.beside-returns-in-None-clause-code
beside-returns-in-None-clause-code t c =
    let old = c.args.code.now.items in
    let left = c.args.left in
    let ps = procedures_of c.args.callees.procedures.now in
    let e = expression_of c.args.tree.now in
    let ce = expression_code ps e in
    let cu = unknown_code ps e in
    let none = sym c.in_ok-value.ensures.value ∙ c.in-None.is in
    c.in_ok-value.ensures.code ∙ ap (λ l. l ++ cu) (c.in_ok-put.ensures.code ∙ ap (λ l. l ++ op.Push ∷ []) c.in_ok-give.ensures.code) ∙ beside_put left old cu
    ∙ ap (λ z. old ++ computed_beside left Computed (unless_found z ce)) none
    ∙ ap (λ q. old ++ computed_beside left q ce) (sym (computed_is e none c.requires))

pub beside-returns-in-None-clause-operand : goal.beside-returns-in-None-clause-operand
beside-returns-in-None-clause-operand t c = sym (computed_is (expression_of c.args.tree.now) (sym c.in_ok-value.ensures.value ∙ c.in-None.is) c.requires)

pub send-returns-in-Some-clause-code : goal.send-returns-in-Some-clause-code
send-returns-in-Some-clause-code t c =
    let after = c.put-in-Some in
    let old = c.args.code.now.items in
    let w = c.args.width in
    let ps = procedures_of c.args.callees.procedures.now in
    let e = expression_of c.args.port.now in
    let ce = expression_code ps e in
    let cu = unknown_code ps e in
    let one = op.SendTo w c.in-Some.number ∷ [] in
    let count : c.len-before.result ≡ length old = search rules in
    let whole = c.in_ok-value.ensures.code ∙ ap (λ l. l ++ cu) c.in_ok-put.ensures.code ∙ append_assoc old (op.Push ∷ []) cu in
    let back = c.truncate.ensures.items ∙ ap (λ n. take n c.known.new.code.items) count ∙ ap (take (length old)) whole ∙ take-append_seam old (op.Push ∷ cu) in
    let is : sent w (folded e) ce ≡ one = ap (λ z. sent w z ce) (sym c.in_ok-value.ensures.value ∙ c.in-Some.is) in
    subst (λ x. OnOk after.result (after.new.code.items ≡ old ++ x)) (sym is) (subst (λ l. OnOk after.result (after.new.code.items ≡ l ++ one)) back after.ensures.code)

pub send-returns-in-None-clause-code : goal.send-returns-in-None-clause-code
send-returns-in-None-clause-code t c =
    let after = c.put-in-None in
    let old = c.args.code.now.items in
    let w = c.args.width in
    let ps = procedures_of c.args.callees.procedures.now in
    let e = expression_of c.args.port.now in
    let ce = expression_code ps e in
    let none = sym c.in_ok-value.ensures.value ∙ c.in-None.is in
    let before = c.in_ok-value.ensures.code ∙ ap (λ l. l ++ unknown_code ps e) c.in_ok-put.ensures.code ∙ ap (λ z. (old ++ op.Push ∷ []) ++ unless_found z ce) none in
    let is : sent w (folded e) ce ≡ op.Push ∷ (ce ++ op.Send w ∷ []) = ap (λ z. sent w z ce) none in
    subst (λ x. OnOk after.result (after.new.code.items ≡ old ++ x)) (sym is)
    (subst (λ l. OnOk after.result (after.new.code.items ≡ l)) (ap (λ l. l ++ op.Send w ∷ []) before ∙ sent_beside old ce (op.Send w)) after.ensures.code)

pub target-returns-in-Port-clause-code : goal.target-returns-in-Port-clause-code
target-returns-in-Port-clause-code t c =
    let after = c.send in
    let ps = procedures_of c.args.callees.procedures.now in
    let port = expression_of c.in-Port.port in
    let is = ap (target_code ps) (ap target_of c.in-Port.is) ∙ port_sent c.in-Port.width port (expression_code ps port) in
    subst (λ e. OnOk after.result (after.new.code.items ≡ c.args.code.now.items ++ e)) (sym is) after.ensures.code

pub call-returns-in_ok-pass-in-len3-up-clause-code : goal.call-returns-in_ok-pass-in-len3-up-clause-code
call-returns-in_ok-pass-in-len3-up-clause-code t c =
    let after = c.add in
    let ps = procedures_of c.args.callees.procedures.now in
    let xs = parameters_of (slice_get ps c.args.number) in
    let es = c.args.arguments.now in
    let is = call_of_many c.args.number xs es (first_code ps (expressions_of es)) (second_code ps (expressions_of es)) (pushed_code ps (expressions_of es)) c.in-len3-up.len_at_least in
    subst (λ e. OnOk after.result (after.new.code.items ≡ c.args.code.now.items ++ e)) (sym is) (grind (arith, common_steps))

pub argument-returns-in-Some-clause-code : goal.argument-returns-in-Some-clause-code
argument-returns-in-Some-clause-code t c =
    let after = c.load_argument in
    let ps = procedures_of c.args.callees.procedures.now in
    let e = expression_of c.args.tree.now in
    let w = c.args.width in
    let named = name_is (operand_of e) c.in-Some.read c.in-Some.at (sym c.as_name.ensures ∙ c.in-Some.is) in
    let is = ap (λ q. argument_code w q (expression_code ps e)) named ∙ ap (argument_code w (Name c.in-Some.read c.in-Some.at)) (name_code ps e c.in-Some.read c.in-Some.at named) in
    subst (λ x. OnOk after.result (after.new.code.items ≡ c.args.code.now.items ++ x)) (sym is) after.ensures.code

pub computed_argument-returns-in-Some-clause-code : goal.computed_argument-returns-in-Some-clause-code
computed_argument-returns-in-Some-clause-code t c =
    let after = c.give_argument in
    let old = c.args.code.now.items in
    let ps = procedures_of c.args.callees.procedures.now in
    let e = expression_of c.args.tree.now in
    let ce = expression_code ps e in
    let w = c.args.width in
    let k = c.in-Some.number in
    let found : folded e ≡ Some k = sym c.in_ok-value.ensures.value ∙ c.in-Some.is in
    let before = c.in_ok-value.ensures.code ∙ ap (λ z. old ++ unless_found z ce) found ∙ append-nil old in
    let is : argument_code w (operand_of e) ce ≡ argument_code w (Number k) (op.Constant k ∷ []) = ap (λ q. argument_code w q ce) (number_is e k found) ∙ ap (argument_code w (Number k)) (known_code ps e k found) in
    subst (λ x. OnOk after.result (after.new.code.items ≡ old ++ x)) (sym is) (subst (λ l. OnOk after.result (after.new.code.items ≡ l ++ argument_code w (Number k) (op.Constant k ∷ []))) before after.ensures.code)

pub computed_argument-returns-in-None-clause-code : goal.computed_argument-returns-in-None-clause-code
computed_argument-returns-in-None-clause-code t c =
    let old = c.args.code.now.items in
    let ps = procedures_of c.args.callees.procedures.now in
    let e = expression_of c.args.tree.now in
    let ce = expression_code ps e in
    let none = sym c.in_ok-value.ensures.value ∙ c.in-None.is in
    c.in_ok-value.ensures.code ∙ ap (λ z. old ++ unless_found z ce) none ∙ ap (λ l. old ++ l) (argument_computed c.args.width ce) ∙ ap (λ q. old ++ argument_code c.args.width q ce) (sym (computed_is e none c.requires))

pub pass_computed-returns-in-Some-clause-code : goal.pass_computed-returns-in-Some-clause-code
pass_computed-returns-in-Some-clause-code t c =
    let after = c.store_known in
    let old = c.args.code.now.items in
    let ps = procedures_of c.args.callees.procedures.now in
    let e = expression_of c.args.tree.now in
    let ce = expression_code ps e in
    let cu = unknown_code ps e in
    let one = scalar_of c.args.one in
    let other = scalar_of c.args.other in
    let k = c.in-Some.number in
    let count : c.len-before.result ≡ length old = search rules in
    let whole = c.in_ok-value.ensures.code ∙ ap (λ l. l ++ cu) c.in_ok-put.ensures.code ∙ append_assoc old (op.Push ∷ []) cu in
    let back = c.truncate.ensures.items ∙ ap (λ n. take n c.known.new.code.items) count ∙ ap (take (length old)) whole ∙ take-append_seam old (op.Push ∷ cu) in
    let found : folded e ≡ Some k = sym c.in_ok-value.ensures.value ∙ c.in-Some.is in
    let is : second_passed one other (operand_of e) ce ≡ second_passed one other (Number k) (op.Constant k ∷ []) = ap (λ q. second_passed one other q ce) (number_is e k found) ∙ ap (second_passed one other (Number k)) (known_code ps e k found) in
    subst (λ x. OnOk after.result (after.new.code.items ≡ old ++ x)) (sym is) (subst (λ l. OnOk after.result (after.new.code.items ≡ l ++ second_passed one other (Number k) (op.Constant k ∷ []))) back after.ensures.code)

pub pass_computed-returns-in-None-clause-code : goal.pass_computed-returns-in-None-clause-code
pass_computed-returns-in-None-clause-code t c =
    let after = c.store_both in
    let old = c.args.code.now.items in
    let ps = procedures_of c.args.callees.procedures.now in
    let e = expression_of c.args.tree.now in
    let ce = expression_code ps e in
    let one = scalar_of c.args.one in
    let other = scalar_of c.args.other in
    let both = op.StoreTop one.width (place_of one.place) ∷ stored_in other ∷ [] in
    let none = sym c.in_ok-value.ensures.value ∙ c.in-None.is in
    let before = c.in_ok-value.ensures.code ∙ ap (λ l. l ++ unknown_code ps e) c.in_ok-put.ensures.code ∙ ap (λ z. (old ++ op.Push ∷ []) ++ unless_found z ce) none in
    let is : second_passed one other (operand_of e) ce ≡ op.Push ∷ (ce ++ both) = ap (λ q. second_passed one other q ce) (computed_is e none c.requires) in
    subst (λ x. OnOk after.result (after.new.code.items ≡ old ++ x)) (sym is)
    (subst (λ l. OnOk after.result (after.new.code.items ≡ l)) (ap (λ l. l ++ both) before ∙ append_assoc (old ++ op.Push ∷ []) ce both ∙ append_assoc old (op.Push ∷ []) (ce ++ both)) after.ensures.code)

pub write-returns-in_ok-subscripts-in-len1-up-clause-code : goal.write-returns-in_ok-subscripts-in-len1-up-clause-code
write-returns-in_ok-subscripts-in-len1-up-clause-code t c =
    let after = c.put-in-len1-up-2 in
    let ss = c.args.list.now in
    let behind = subscripts_code (procedures_of c.args.callees.procedures.now) (subscripts_of ss) in
    let is = writing_behind c.args.width c.args.anchor c.args.offset ss behind (not_based c.args.anchor c.in-InObject.is) c.in-len1-up.len_at_least in
    subst (λ e. OnOk after.result (after.new.code.items ≡ c.args.code.now.items ++ e)) (sym is) (grind (arith, common_steps))

pub pass_other-returns-in-len2-up-clause-code : goal.pass_other-returns-in-len2-up-clause-code
pass_other-returns-in-len2-up-clause-code t c =
    let after = c.pass_second in
    let e = expression_of c.args.tree.now in
    subst (λ x. OnOk after.result (after.new.code.items ≡ c.args.code.now.items ++ x)) (other_of_two c.args.parameters.now _ _ (operand_of e) (expression_code (procedures_of c.args.callees.procedures.now) e) c.in-len2-up.len_at_least) after.ensures.code
