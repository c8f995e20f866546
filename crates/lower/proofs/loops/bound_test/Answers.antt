use Rattle.std.proofs.Common.{◌≡◌, ◌++◌, ◌∷◌, [], length, append_assoc, ap, sym, ◌∙◌, rules}
use Rattle.plm_type.specs.View.{expression_of, procedures_of, scalar_of}
use Rattle.lower.specs.Expressions.{Name, operand_of, beside, expression_code}
use Rattle.lower.specs.Statements.{index_read}
use Rattle.lower.specs.Conditions.{compared, named, unless_named}
use Rattle.lower.specs.LowBytes.{low_code}
use Rattle.lower.proofs.Trees.{same_place}
use Rattle.lower.proofs.loops.bound_test.Goals as goal

pub returns-clause-code : goal.returns-clause-code
returns-clause-code c =
    let ps = procedures_of c.args.callees.procedures.now in
    let old = c.args.code.now.items in
    let bytes = c.args.bytes in
    let b = expression_of c.args.bound.now in
    let index = c.args.index in
    let comparison = compared bytes (beside (operand_of b) (low_code ps b)) (beside (operand_of b) (expression_code ps b)) in
    let more = index_read bytes (scalar_of index) ∷ comparison in
    let whole : c.right_operand.new.code.items ≡ old ++ more =
    c.in_ok-right.ensures.code ∙ ap (λ l. l ++ comparison) c.in_ok-put.ensures.code ∙ append_assoc old (c.index_read.result ∷ []) comparison ∙ ap (λ i. old ++ (i ∷ comparison)) c.index_read.ensures in
    let count : c.len-before.result ≡ length old = search rules in
    let is =
    c.named-named.ensures ∙ ap (named bytes c.args.relation (Name index.width index.place)) c.in_ok-right.ensures.operand ∙ ap (λ p. named bytes c.args.relation (Name index.width p) (operand_of b)) (sym (same_place index.place)) in
    c.settle.ensures.code old more whole count ∙ ap (λ z. old ++ unless_named z more) is
