use Rattle.std.proofs.Common.{ap, sym, ◌∙◌}
use Rattle.plm_type.specs.declared.program.Loop.{Loop}
use Rattle.plm_type.specs.View.{statement_of, statements_of}
use Rattle.lower.specs.Expressions.{is_giving, are_giving}
use Rattle.lower.proofs.Bools.{first_or, second_or}
use Rattle.lower.proofs.callees.+giving.Goals as goal

pub is_giving-returns-then-are_giving : goal.is_giving-returns-then-are_giving
is_giving-returns-then-are_giving t c =
    let arm = c.are_giving.ensures ∙ ap (λ ss. are_giving (statements_of ss)) c.deref.ensures.value in
    first_or c.are_giving.result (are_giving (statements_of c.in-If.arm.items)) (are_giving (statements_of c.in-If.other.items)) arm c.if-are_giving.true
    ∙ sym (ap is_giving (ap statement_of c.in-If.is ∙ c.trees_have_their_lists.ensures.if_else c.in-If.field-0 c.in-If.arm c.in-If.other))

pub is_giving-returns-else-are_giving : goal.is_giving-returns-else-are_giving
is_giving-returns-else-are_giving t c =
    let arm = c.are_giving.ensures ∙ ap (λ ss. are_giving (statements_of ss)) c.deref.ensures.value in
    let other = c.are_giving-else-are_giving.ensures ∙ ap (λ ss. are_giving (statements_of ss)) c.deref-else-are_giving.ensures.value in
    second_or c.are_giving.result c.are_giving-else-are_giving.result (are_giving (statements_of c.in-If.arm.items)) (are_giving (statements_of c.in-If.other.items)) arm c.if-are_giving.false other
    ∙ sym (ap is_giving (ap statement_of c.in-If.is ∙ c.trees_have_their_lists.ensures.if_else c.in-If.field-0 c.in-If.arm c.in-If.other))

pub is_giving-returns-in-Block : goal.is_giving-returns-in-Block
is_giving-returns-in-Block t c =
    c.are_giving-in-Block.ensures ∙ ap (λ ss. are_giving (statements_of ss)) c.deref-in-Block.ensures.value ∙ sym (ap is_giving (ap statement_of c.in-Block.is ∙ c.trees_have_their_lists.ensures.block c.in-Block.body))

pub is_giving-returns-in-While : goal.is_giving-returns-in-While
is_giving-returns-in-While t c =
    c.are_giving-in-While.ensures ∙ ap (λ ss. are_giving (statements_of ss)) c.deref-in-While.ensures.value
    ∙ sym (ap is_giving (ap statement_of c.in-While.is ∙ c.trees_have_their_lists.ensures.while_true c.in-While.field-0 c.in-While.body))

pub is_giving-returns-in-Case : goal.is_giving-returns-in-Case
is_giving-returns-in-Case t c =
    c.are_giving-in-Case.ensures ∙ ap (λ ss. are_giving (statements_of ss)) c.deref-in-Case.ensures.value ∙ sym (ap is_giving (ap statement_of c.in-Case.is ∙ c.trees_have_their_lists.ensures.case_of c.in-Case.field-0 c.in-Case.cases))

pub is_giving-returns-in-Iterate : goal.is_giving-returns-in-Iterate
is_giving-returns-in-Iterate t c =
    c.are_giving-in-Iterate.ensures ∙ ap (λ ss. are_giving (statements_of ss)) c.deref-in-Iterate-2.ensures.value
    ∙ ap (λ (l : Loop). are_giving (statements_of l.body.items)) c.deref-in-Iterate.ensures
    ∙ sym (ap is_giving (ap statement_of c.in-Iterate.is ∙ c.trees_have_their_lists.ensures.iterate c.in-Iterate.field-0 c.in-Iterate.rounds))
