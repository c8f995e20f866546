use Rattle.std.proofs.Common.{◌≡◌, ◌≤◌, suc, sym, ap, subst, ◌∙◌, arith}
use Rattle.plm_type.specs.Rest.{Refer}
use Rattle.plm_type.specs.Next.{indexed}
use Rattle.plm_type.specs.View.{expression_of, subscripts_of, anchor_of}
use Rattle.plm_meaning.specs.Context.{purposed}
use Rattle.plm_meaning.specs.Inner.Start.{depth, subscripts_depth}
use Rattle.plm_meaning.proofs.Given.{source_value}
use Rattle.plm_meaning.proofs.Begun.{rest_of, first_of}
use Rattle.plm_meaning.proofs.start.subscripts_start.Goals as goal

pub returns-in-None-clause-depth : goal.returns-in-None-clause-depth
returns-in-None-clause-depth c = c.refer.ensures.depth (subscripts_depth (subscripts_of c.args.subscripts.now))

pub returns-in-Some : goal.returns-in-Some
returns-in-Some c =
    let k = c.within.new.context in
    let fs = c.args.context.now.frames.items in
    let x = c.args.purpose.now in
    let l = c.args.line in
    let a = anchor_of c.args.anchor.now in
    let s = c.in-Some.s.now in
    let d = depth (expression_of s.index) in
    let same : suc d ≤ suc d = omega arith in
    let path =
    ap (λ o. purposed x (indexed l.module l.line a c.args.offset s.stride o (expression_of s.index) (subscripts_of c.in-Some.more.now))) (source_value s.index)
    ∙ ap (λ ss. purposed x (Refer l.module l.line a c.args.offset (subscripts_of ss))) (sym c.in-Some.ensures.cases.0) in
    record {
      rest = rest_of _ k fs _ _ path c.within.ensures.rest;
      settled = c.within.ensures.settled;
      first = first_of (λ e. expression_of e.now) _ k fs _ _ path c.within.ensures.first;
      depth = c.within.ensures.depth _ (subst (λ ss. suc d ≤ subscripts_depth (subscripts_of ss)) (sym c.in-Some.ensures.cases.0) same);
    }
