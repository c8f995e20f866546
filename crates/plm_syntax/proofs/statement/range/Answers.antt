use Rattle.std.proofs.Common.{◌∷◌, ◌<◌, List, None, Result, Ok, Err, refl, sym, ap, ◌∙◌, subst, length, arith}
use Rattle.std.specs.Global.{Box}
use Rattle.plm_token.specs.declared.token.Mark.TheVariants as mark
use Rattle.plm_token.specs.declared.token.Keyword.TheVariants as key
use Rattle.plm_syntax.specs.declared.tree.Expression.{Expression}
use Rattle.plm_syntax.specs.declared.tree.Bounds.{Bounds}
use Rattle.plm_syntax.specs.declared.cursor.Cursor.{Cursor}
use Rattle.plm_syntax.specs.declared.failure.Failure.{Failure}
use Rattle.plm_syntax.specs.Terminal.{NameT, Sign, Key}
use Rattle.plm_syntax.specs.View.{expression_of, step_of}
use Rattle.plm_syntax.specs.Inner.Symbol.{Value, Symbol, need, push, Need, Want, Do, NameR, StepR, RangeR, StepG}
use Rattle.plm_syntax.specs.Inner.Machine.{an_expression, make_range, run}
use Rattle.plm_syntax.specs.Inner.Parsed.{ahead, IsBoxed}
use Rattle.plm_syntax.specs.Inner.Blocks.{read_range, read_step, range_goals, Shrinks}
use Rattle.plm_syntax.specs.Inner.Parts.{read_expression}
use Rattle.plm_syntax.proofs.Along.{quiet, taken, need_refused, failed, refusal}
use Rattle.plm_syntax.proofs.Joined.{arrived, ended, boxes, stays_within, stays_less}
use Rattle.plm_syntax.proofs.statement.range.Goals as goal

-- what is awaited after the bounds of a DO with an index
abbrev to_step : List Symbol → List Symbol
to_step s = Do make_range ∷ push (StepR None) ∷ Want StepG ∷ need mark.Semicolon ∷ s

pub returns-in_err-begun-clause-leads : goal.returns-in_err-begun-clause-leads
returns-in_err-begun-clause-leads c = λ i s v d. failed (read_range i) s v c.from_residual.result c.in_err-begun.field-0.0 c.from_residual.ensures.1
    (need_refused (Sign mark.Equal) c.args.cursor (an_expression (Need (Key key.To) ∷ an_expression (to_step s))) (NameR i ∷ v) c.in_err-begun.ensures.0)
    (refusal c.in_err-begun.field-0.0 c.args.cursor c.in_err-begun.ensures.1 refl)

pub returns-in_err-start-clause-leads : goal.returns-in_err-start-clause-leads
returns-in_err-start-clause-leads c = λ i s v d. failed (read_range i) s v c.from_residual-in_err-start.result c.in_err-start.field-0.0 c.from_residual-in_err-start.ensures.1
    (taken (need mark.Equal ∷ an_expression (Need (Key key.To) ∷ an_expression (to_step s))) (NameR i ∷ v) c.in_ok-begun.ensures.1)
    (c.in_err-start.ensures.leads (an_expression (to_step s)) (NameR i ∷ v) d)

pub returns-in_err-ends-clause-leads : goal.returns-in_err-ends-clause-leads
returns-in_err-ends-clause-leads c = λ i s v d. failed (read_range i) s v c.from_residual-in_err-ends.result c.in_err-ends.field-0.0 c.from_residual-in_err-ends.ensures.1
    (taken (need mark.Equal ∷ an_expression (Need (Key key.To) ∷ an_expression (to_step s))) (NameR i ∷ v) c.in_ok-begun.ensures.1
    ∙ c.in_ok-start.ensures.leads (an_expression (to_step s)) (NameR i ∷ v) d)
    (ended read_expression (to_step s) (read_expression c.in_ok-start.start (NameR i ∷ v)) (run 64 (an_expression (to_step s)) (read_expression c.in_ok-start.start (NameR i ∷ v)) (ahead c.in_ok-start.bound)) c.in_err-ends.ensures
    (c.expression.ensures.leads (to_step s) (read_expression c.in_ok-start.start (NameR i ∷ v)) d))

pub returns-in_err-first-clause-leads : goal.returns-in_err-first-clause-leads
returns-in_err-first-clause-leads c = λ i s v d. failed (read_range i) s v c.from_residual-in_err-first.result c.in_err-first.field-0.0 c.from_residual-in_err-first.ensures.1
    (taken (need mark.Equal ∷ an_expression (Need (Key key.To) ∷ an_expression (to_step s))) (NameR i ∷ v) c.in_ok-begun.ensures.1
    ∙ c.in_ok-start.ensures.leads (an_expression (to_step s)) (NameR i ∷ v) d
    ∙ arrived read_expression (to_step s) (read_expression c.in_ok-start.start (NameR i ∷ v)) c.in_ok-ends.ensures.1 (c.expression.ensures.leads (to_step s) (read_expression c.in_ok-start.start (NameR i ∷ v)) d)
    ∙ quiet c.in_ok-ends.behind (to_step s) (Want StepG ∷ need mark.Semicolon ∷ s) (read_expression c.in_ok-ends.ends.1 (read_expression c.in_ok-start.start (NameR i ∷ v))) (StepR None ∷ RangeR i (expression_of c.in_ok-start.start) (expression_of c.in_ok-ends.ends.1) ∷ v) (λ t q. refl))
    (ended read_step s (RangeR i (expression_of c.in_ok-start.start) (expression_of c.in_ok-ends.ends.1) ∷ v) (run 64 (Want StepG ∷ need mark.Semicolon ∷ s) (StepR None ∷ RangeR i (expression_of c.in_ok-start.start) (expression_of c.in_ok-ends.ends.1) ∷ v) (ahead c.in_ok-ends.behind)) c.in_err-first.ensures
    (c.step.ensures.leads s (RangeR i (expression_of c.in_ok-start.start) (expression_of c.in_ok-ends.ends.1) ∷ v) d))

-- bounds that were read, in no box yet
abbrev bounds_read : NameT → Bounds → List Value → List Value
bounds_read i x v = StepR (step_of x.step) ∷ RangeR i (expression_of x.first) (expression_of x.last) ∷ v

boxes_less : (d : Cursor) (x : Bounds × Cursor) (r : Result (Box Bounds × Cursor) Failure) → IsBoxed {A = Bounds} (Ok x) r → length x.1.tokens.now < length d.tokens.now → Shrinks r d
boxes_less d x (Ok y) h w = subst (λ (c : Cursor). length c.tokens.now < length d.tokens.now) (sym h.1) w
boxes_less d x (Err f) h w = tt

pub returns-clause-leads : goal.returns-clause-leads
returns-clause-leads c = λ i s v d.
    let bounds : Bounds = record { first = c.in_ok-first.first; last = c.in_ok-first.last; step = c.in_ok-first.step } in
    boxes (bounds_read i) s v (Ok (bounds, c.in_ok-first.rest)) c.boxed.result (run 64 (range_goals s) (NameR i ∷ v) (ahead c.args.cursor)) c.boxed.ensures
    (taken (need mark.Equal ∷ an_expression (Need (Key key.To) ∷ an_expression (to_step s))) (NameR i ∷ v) c.in_ok-begun.ensures.1
    ∙ c.in_ok-start.ensures.leads (an_expression (to_step s)) (NameR i ∷ v) d
    ∙ arrived read_expression (to_step s) (read_expression c.in_ok-start.start (NameR i ∷ v)) c.in_ok-ends.ensures.1 (c.expression.ensures.leads (to_step s) (read_expression c.in_ok-start.start (NameR i ∷ v)) d)
    ∙ quiet c.in_ok-ends.behind (to_step s) (Want StepG ∷ need mark.Semicolon ∷ s) (read_expression c.in_ok-ends.ends.1 (read_expression c.in_ok-start.start (NameR i ∷ v))) (StepR None ∷ RangeR i (expression_of c.in_ok-start.start) (expression_of c.in_ok-ends.ends.1) ∷ v) (λ t q. refl)
    ∙ arrived read_step s (RangeR i (expression_of c.in_ok-start.start) (expression_of c.in_ok-ends.ends.1) ∷ v) c.in_ok-first.ensures.1 (c.step.ensures.leads s (RangeR i (expression_of c.in_ok-start.start) (expression_of c.in_ok-ends.ends.1) ∷ v) d)
    ∙ ap (λ (x : Expression). run 64 s (StepR (step_of c.in_ok-first.step) ∷ RangeR i (expression_of x) (expression_of c.in_ok-ends.ends.1) ∷ v) (ahead c.in_ok-first.rest)) (sym c.in_ok-ends.ensures.0)
    ∙ ap (λ (x : Expression × Expression). run 64 s (StepR (step_of c.in_ok-first.step) ∷ RangeR i (expression_of x.0) (expression_of x.1) ∷ v) (ahead c.in_ok-first.rest)) (sym c.in_ok-first.ensures.0))

pub returns-clause-within : goal.returns-clause-within
returns-clause-within c =
    let bounds : Bounds = record { first = c.in_ok-first.first; last = c.in_ok-first.last; step = c.in_ok-first.step } in
    boxes_less c.args.cursor (bounds, c.in_ok-first.rest) c.boxed.result c.boxed.ensures
    (omega (arith, c.in_ok-begun.ensures.1.shorter, c.in_ok-start.ensures.within, stays_within c.in_ok-start.bound c.in_ok-ends.ensures.1 c.expression.ensures.within, stays_less c.in_ok-ends.behind c.in_ok-first.ensures.1 c.step.ensures.within))
