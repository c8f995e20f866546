use Rattle.std.proofs.Common.{◌∙◌, sym}
use Rattle.plm_token.proofs.Skips.{literal_stays, line_start, line_inside}
use Rattle.plm_token.proofs.scanner.state_after.Goals as goal

pub returns-then-is_literal : goal.returns-then-is_literal
returns-then-is_literal c = literal_stays c.args.state c.args.text.now (sym c.is_literal.ensures ∙ c.if-is_literal.true)

pub returns-in-Some : goal.returns-in-Some
returns-in-Some c = line_start c.args.state c.args.text.now _ _ (sym c.is_literal.ensures ∙ c.if-is_literal.false) c.in-Some.ensures.cases.0 c.if-last-eq10.true

pub returns-in-Some-2 : goal.returns-in-Some-2
returns-in-Some-2 c = line_inside c.args.state c.args.text.now _ _ (sym c.is_literal.ensures ∙ c.if-is_literal.false) c.in-Some.ensures.cases.0 c.if-last-eq10.false
