use Rattle.std.proofs.Common.{sym, ap, ◌∙◌}
use Rattle.plm_type.specs.Rest.{If, Block, While, Case, Iterate, Then, End}
use Rattle.plm_type.specs.View.{expression_of, loop_of, statement_of, statements_of}
use Rattle.plm_meaning.specs.Context.{ToRun}
use Rattle.plm_meaning.proofs.Begun.{rest_of, first_of}
use Rattle.plm_meaning.proofs.start.statement_start.Goals as goal

pub returns-in-If : goal.returns-in-If
returns-in-If c =
    let k = c.within-in-If.new.context in
    let fs = c.args.context.now.frames.items in
    let e = expression_of c.in-If.condition in
    let path = ap (λ s. ToRun (Then s End))
    (ap (λ ss. If e (statements_of ss) (statements_of c.deref-in-If-2.result.now)) c.deref-in-If.ensures.value
    ∙ ap (λ ss. If e (statements_of c.in-If.arm.items) (statements_of ss)) c.deref-in-If-2.ensures.value
    ∙ sym (c.trees_have_their_lists.ensures.if_else c.in-If.condition c.in-If.arm c.in-If.other)
    ∙ ap statement_of (sym c.in-If.is)) in
    record {
      rest = rest_of _ k fs _ _ path c.within-in-If.ensures.rest;
      settled = c.within-in-If.ensures.settled;
      first = first_of _ _ k fs _ _ path c.within-in-If.ensures.first;
    }

pub returns-in-While : goal.returns-in-While
returns-in-While c =
    let k = c.within-in-While.new.context in
    let fs = c.args.context.now.frames.items in
    let e = expression_of c.in-While.condition in
    let path = ap (λ s. ToRun (Then s End))
    (ap (λ ss. While e e (statements_of ss)) c.deref-in-While.ensures.value
    ∙ sym (c.trees_have_their_lists.ensures.while_true c.in-While.condition c.in-While.body)
    ∙ ap statement_of (sym c.in-While.is)) in
    record {
      rest = rest_of _ k fs _ _ path c.within-in-While.ensures.rest;
      settled = c.within-in-While.ensures.settled;
      first = first_of _ _ k fs _ _ path c.within-in-While.ensures.first;
    }

pub returns-in-Case : goal.returns-in-Case
returns-in-Case c =
    let k = c.within-in-Case.new.context in
    let fs = c.args.context.now.frames.items in
    let e = expression_of c.in-Case.value in
    let path = ap (λ s. ToRun (Then s End))
    (ap (λ ss. Case e (statements_of ss)) c.deref-in-Case.ensures.value
    ∙ sym (c.trees_have_their_lists.ensures.case_of c.in-Case.value c.in-Case.cases)
    ∙ ap statement_of (sym c.in-Case.is)) in
    record {
      rest = rest_of _ k fs _ _ path c.within-in-Case.ensures.rest;
      settled = c.within-in-Case.ensures.settled;
      first = first_of _ _ k fs _ _ path c.within-in-Case.ensures.first;
    }

pub returns-in-Iterate : goal.returns-in-Iterate
returns-in-Iterate c =
    let k = c.within-in-Iterate.new.context in
    let fs = c.args.context.now.frames.items in
    let path = ap (λ s. ToRun (Then s End))
    (ap (λ l. Iterate (expression_of c.in-Iterate.first) (loop_of l)) c.deref-in-Iterate.ensures
    ∙ sym (c.trees_have_their_lists.ensures.iterate c.in-Iterate.first c.in-Iterate.rounds)
    ∙ ap statement_of (sym c.in-Iterate.is)) in
    record {
      rest = rest_of _ k fs _ _ path c.within-in-Iterate.ensures.rest;
      settled = c.within-in-Iterate.ensures.settled;
      first = first_of _ _ k fs _ _ path c.within-in-Iterate.ensures.first;
    }

pub returns-in-Block : goal.returns-in-Block
returns-in-Block c =
    let k = c.ready-in-Block.new.context in
    let fs = c.args.context.now.frames.items in
    let path = ap (λ s. ToRun (Then s End))
    (ap (λ ss. Block (statements_of ss)) c.deref-in-Block.ensures.value
    ∙ sym (c.trees_have_their_lists.ensures.block c.in-Block.body)
    ∙ ap statement_of (sym c.in-Block.is)) in
    record {
      rest = rest_of _ k fs _ _ path c.ready-in-Block.ensures.rest;
      settled = c.ready-in-Block.ensures.settled;
      first = first_of _ _ k fs _ _ path c.ready-in-Block.ensures.first;
    }
