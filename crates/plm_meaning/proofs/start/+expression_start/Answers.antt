use Rattle.std.proofs.Common.{◌≡◌, ◌≤◌, suc, ◌∷◌, IfSome, sym, ap, subst, ◌∙◌, arith}
use Rattle.plm_type.specs.Rest as rest
use Rattle.plm_type.specs.View.{expression_of, expressions_of, chained}
use Rattle.plm_meaning.specs.Context.{Expr}
use Rattle.plm_meaning.specs.Inner.Start.{depth, arguments_depth}
use Rattle.plm_meaning.proofs.Given.{no_operations, chained_depth}
use Rattle.plm_meaning.proofs.Begun.{rest_of, first_of}
use Rattle.plm_meaning.proofs.start.+expression_start.Goals as goal

pub returns-in-Constant-clause-depth : goal.returns-in-Constant-clause-depth
returns-in-Constant-clause-depth t c = c.ready.ensures.depth (depth (expression_of c.args.e.now))

pub returns-in-Plain-clause-depth : goal.returns-in-Plain-clause-depth
returns-in-Plain-clause-depth t c = c.ready-in-Plain.ensures.depth (depth (expression_of c.args.e.now))

pub returns-in-None : goal.returns-in-None
returns-in-None t c =
    let k = c.expression_start.new.context in
    let fs = c.args.context.now.frames.items in
    let x = expression_of c.in-Chain.first.value in
    let path : expression_of c.deref-in-None.result.now ≡ expression_of c.args.e.now =
    ap expression_of c.deref-in-None.ensures
    ∙ sym (no_operations c.deref-in-Chain.result.now x c.in-None.ensures.cases)
    ∙ ap (chained x) c.deref-in-Chain.ensures.value
    ∙ sym (c.trees_have_their_lists.ensures.chain c.in-Chain.first c.in-Chain.operations)
    ∙ ap expression_of (sym c.in-Chain.is) in
    record {
      rest = rest_of _ k fs _ _ (ap Expr path) c.expression_start.ensures.rest;
      settled = c.expression_start.ensures.settled;
      first = first_of (λ e. expression_of e.now) _ k fs _ _ (ap Expr path) c.expression_start.ensures.first;
      depth = subst (λ y. IfSome c.expression_start.result (λ e. suc (depth (expression_of e.now)) ≤ depth y)) path c.expression_start.ensures.depth;
    }

pub returns-in-Some : goal.returns-in-Some
returns-in-Some t c =
    let k = c.within-in-Some.new.context in
    let fs = c.args.context.now.frames.items in
    let x = expression_of c.in-Chain.first.value in
    let o = c.in-Some.operation.now in
    let y = expression_of c.deref-in-Some.result.now in
    let path : chained y (o ∷ c.in-Some.more.now) ≡ expression_of c.args.e.now =
    ap (λ e. chained (expression_of e) (o ∷ c.in-Some.more.now)) c.deref-in-Some.ensures
    ∙ ap (chained x) (sym c.in-Some.ensures.cases.0 ∙ c.deref-in-Chain.ensures.value)
    ∙ sym (c.trees_have_their_lists.ensures.chain c.in-Chain.first c.in-Chain.operations)
    ∙ ap expression_of (sym c.in-Chain.is) in
    record {
      rest = rest_of _ k fs _ _ (ap Expr path) c.within-in-Some.ensures.rest;
      settled = c.within-in-Some.ensures.settled;
      first = first_of (λ e. expression_of e.now) _ k fs _ _ (ap Expr path) c.within-in-Some.ensures.first;
      depth = c.within-in-Some.ensures.depth (depth (expression_of c.args.e.now)) (subst (λ z. suc (depth y) ≤ depth z) path (chained_depth c.in-Some.more.now (rest.Binary o.line.module o.line.line o.operation o.width y (expression_of o.operand))));
    }

pub returns-in-Call : goal.returns-in-Call
returns-in-Call t c =
    let k = c.call_start.new.context in
    let fs = c.args.context.now.frames.items in
    let p = c.in-Call.procedure in
    let path : rest.Call p (expressions_of c.deref-in-Call.result.now) ≡ expression_of c.args.e.now =
    ap (λ es. rest.Call p (expressions_of es)) c.deref-in-Call.ensures.value ∙ sym (c.trees_have_their_lists.ensures.call p c.in-Call.arguments) ∙ ap expression_of (sym c.in-Call.is) in
    record {
      rest = rest_of _ k fs _ _ (ap Expr path) c.call_start.ensures.rest;
      settled = c.call_start.ensures.settled;
      first = first_of (λ e. expression_of e.now) _ k fs _ _ (ap Expr path) c.call_start.ensures.first;
      depth = subst (λ y. IfSome c.call_start.result (λ e. suc (depth (expression_of e.now)) ≤ depth y)) path c.call_start.ensures.depth;
    }
