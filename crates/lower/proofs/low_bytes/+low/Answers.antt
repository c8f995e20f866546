use Rattle.std.proofs.Common.{◌≡◌, ◌++◌, OnOk, IfOk, ◌∷◌, [], length, take, ap, subst, sym, ◌∙◌, arith, rules, append-nil}
use Rattle.std.proofs.Math.Seq.{take-append_seam}
use Rattle.std.proofs.lemmas.Grind.{common_steps}
use Rattle.icode.specs.declared.instruction.Instruction.TheVariants as op
use Rattle.plm_type.specs.View.{expression_of, procedures_of}
use Rattle.lower.specs.Expressions.{folded, Number, Computed, operand_of}
use Rattle.lower.specs.LowBytes.{low_code}
use Rattle.lower.specs.Inner.Expressions.{unless_found, binary_value_of}
use Rattle.lower.specs.Inner.LowBytes.{low_beside, low_code_of, low_unknown_code, whole_count}
use Rattle.lower.specs.Inner.Put.{operand_shown}
use Rattle.lower.proofs.Known.{chain_folded, number_is, computed_is, name_is}
use Rattle.lower.proofs.LowTrees.{low_given_code, low_unary_unknown, low_beside_put, low_split, value_split, left_coded}
use Rattle.lower.proofs.low_bytes.+low.Goals as goal

pub low-returns-clause-code : goal.low-returns-clause-code
low-returns-clause-code t c =
    let after = c.low_give in
    subst (λ e. OnOk after.result (after.new.code.items ≡ c.args.code.now.items ++ e)) (low_given_code (procedures_of c.args.callees.procedures.now) (expression_of c.args.tree.now)) (grind (arith, common_steps))

pub low_known-returns-in_ok-left-in-Chain-clause-code : goal.low_known-returns-in_ok-left-in-Chain-clause-code
low_known-returns-in_ok-left-in-Chain-clause-code t c =
    let after = c.low_operations in
    let ps = procedures_of c.args.callees.procedures.now in
    let is = ap (low_unknown_code ps) (ap expression_of c.in-Chain.is ∙ c.trees_have_their_lists.ensures.chain c.in-Chain.first c.in-Chain.operations) ∙ low_split ps (expression_of c.in-Chain.first.value) c.in-Chain.operations.items in
    subst (λ e. OnOk after.result (after.new.code.items ≡ c.args.code.now.items ++ e)) (sym is) (grind (arith, common_steps))

pub low_known-returns-in_ok-left-in-Chain-clause-value : goal.low_known-returns-in_ok-left-in-Chain-clause-value
low_known-returns-in_ok-left-in-Chain-clause-value t c =
    let after = c.low_operations in
    let e = expression_of c.in-Chain.first.value in
    let os = c.in-Chain.operations.items in
    let is = ap folded (ap expression_of c.in-Chain.is ∙ c.trees_have_their_lists.ensures.chain c.in-Chain.first c.in-Chain.operations) ∙ chain_folded e os ∙ sym (value_split (folded e) os (whole_count os)) in
    subst (λ z. IfOk after.result (λ v. v ≡ z)) (sym is) (grind (arith, common_steps))

pub low_known-returns-in_ok-value-in-Unary-clause-code : goal.low_known-returns-in_ok-value-in-Unary-clause-code
low_known-returns-in_ok-value-in-Unary-clause-code t c =
    let after = c.low_unary in
    let ps = procedures_of c.args.callees.procedures.now in
    let is = ap (low_unknown_code ps) (ap expression_of c.in-Unary.is) ∙ low_unary_unknown ps c.in-Unary.operation c.in-Unary.width (expression_of c.in-Unary.operand.value) in
    subst (λ e. OnOk after.result (after.new.code.items ≡ c.args.code.now.items ++ e)) (sym is) (grind (arith, common_steps))

pub low_first-returns-in_ok-left-in-len1-up-clause-code : goal.low_first-returns-in_ok-left-in-len1-up-clause-code
low_first-returns-in_ok-left-in-len1-up-clause-code t c =
    let after = c.chain in
    let is = left_coded (procedures_of c.args.callees.procedures.now) (expression_of c.args.first.now) c.args.whole.now c.in-len1-up.len_at_least in
    subst (λ e. OnOk after.result (after.new.code.items ≡ c.args.code.now.items ++ e)) (sym is) (grind (arith, common_steps))

pub low_direct-returns-in-Number-clause-code : goal.low_direct-returns-in-Number-clause-code
low_direct-returns-in-Number-clause-code t c =
    let after = c.low_with_number in
    let old = c.args.code.now.items in
    let left = c.args.left in
    let o = c.args.operation.now in
    let e = expression_of o.operand in
    let ce = low_code (procedures_of c.args.callees.procedures.now) e in
    let is : operand_of e ≡ Number c.in-Number.value = sym c.in_ok-operand.ensures.operand ∙ ap operand_shown c.in-Number.is in
    subst (λ q. OnOk after.result (after.new.code.items ≡ old ++ low_code_of left c.args.direct o.operation o.width q ce)) (sym is)
    (subst (λ l. OnOk after.result (after.new.code.items ≡ l ++ low_code_of left c.args.direct o.operation o.width (Number c.in-Number.value) []))
    (c.in_ok-operand.ensures.code ∙ ap (λ q. old ++ low_beside left q ce) is ∙ append-nil old) after.ensures.code)

pub low_direct-returns-in-Number-clause-value : goal.low_direct-returns-in-Number-clause-value
low_direct-returns-in-Number-clause-value t c =
    let after = c.low_with_number in
    let o = c.args.operation.now in
    let is : operand_of (expression_of o.operand) ≡ Number c.in-Number.value = sym c.in_ok-operand.ensures.operand ∙ ap operand_shown c.in-Number.is in
    subst (λ q. IfOk after.result (λ v. v ≡ binary_value_of c.args.left o.operation o.width q)) (sym is) after.ensures.value

pub low_right-returns-in-Some-clause-code : goal.low_right-returns-in-Some-clause-code
low_right-returns-in-Some-clause-code t c =
    let e = expression_of c.args.tree.now in
    let ce = low_code (procedures_of c.args.callees.procedures.now) e in
    let is = name_is (operand_of e) c.in-Some.width c.in-Some.at (sym c.as_name.ensures ∙ c.in-Some.is) in
    sym (append-nil c.args.code.now.items) ∙ ap (λ q. c.args.code.now.items ++ low_beside c.args.left q ce) (sym is)

pub low_right-returns-in-Some-clause-operand : goal.low_right-returns-in-Some-clause-operand
low_right-returns-in-Some-clause-operand t c = sym (name_is (operand_of (expression_of c.args.tree.now)) c.in-Some.width c.in-Some.at (sym c.as_name.ensures ∙ c.in-Some.is))

pub low_beside-returns-in-Some-clause-code : goal.low_beside-returns-in-Some-clause-code
low_beside-returns-in-Some-clause-code t c =
    let old = c.args.code.now.items in
    let left = c.args.left in
    let ps = procedures_of c.args.callees.procedures.now in
    let e = expression_of c.args.tree.now in
    let cu = low_unknown_code ps e in
    let count : c.len-before.result ≡ length old = search rules in
    let whole = c.in_ok-value.ensures.code ∙ ap (λ l. l ++ cu) (c.in_ok-put.ensures.code ∙ ap (λ l. l ++ op.Push ∷ []) c.in_ok-low_give.ensures.code) ∙ low_beside_put left old cu in
    c.truncate.ensures.items ∙ ap (λ n. take n c.low_known.new.code.items) count ∙ ap (take (length old)) whole ∙ take-append_seam old (low_beside left Computed cu) ∙ sym (append-nil old)
    ∙ ap (λ q. old ++ low_beside left q (low_code ps e)) (sym (number_is e c.in-Some.number (sym c.in_ok-value.ensures.value ∙ c.in-Some.is)))

pub low_beside-returns-in-Some-clause-operand : goal.low_beside-returns-in-Some-clause-operand
low_beside-returns-in-Some-clause-operand t c = sym (number_is (expression_of c.args.tree.now) c.in-Some.number (sym c.in_ok-value.ensures.value ∙ c.in-Some.is))

pub low_beside-returns-in-None-clause-code : goal.low_beside-returns-in-None-clause-code
low_beside-returns-in-None-clause-code t c =
    let old = c.args.code.now.items in
    let left = c.args.left in
    let ps = procedures_of c.args.callees.procedures.now in
    let e = expression_of c.args.tree.now in
    let ce = low_code ps e in
    let cu = low_unknown_code ps e in
    let none = sym c.in_ok-value.ensures.value ∙ c.in-None.is in
    c.in_ok-value.ensures.code ∙ ap (λ l. l ++ cu) (c.in_ok-put.ensures.code ∙ ap (λ l. l ++ op.Push ∷ []) c.in_ok-low_give.ensures.code) ∙ low_beside_put left old cu
    ∙ ap (λ z. old ++ low_beside left Computed (unless_found z ce)) none
    ∙ ap (λ q. old ++ low_beside left q ce) (sym (computed_is e none c.requires))

pub low_beside-returns-in-None-clause-operand : goal.low_beside-returns-in-None-clause-operand
low_beside-returns-in-None-clause-operand t c = sym (computed_is (expression_of c.args.tree.now) (sym c.in_ok-value.ensures.value ∙ c.in-None.is) c.requires)
