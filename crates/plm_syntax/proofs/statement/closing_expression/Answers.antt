use Rattle.std.proofs.Common.{◌∷◌}
use Rattle.plm_token.specs.declared.token.Mark.TheVariants as mark
use Rattle.plm_syntax.specs.Inner.Symbol.{need}
use Rattle.plm_syntax.specs.Inner.Machine.{an_expression, run}
use Rattle.plm_syntax.specs.Inner.Parsed.{ahead}
use Rattle.plm_syntax.specs.Inner.Parts.{read_expression}
use Rattle.plm_syntax.proofs.Joined.{closes, closes_less}
use Rattle.plm_syntax.proofs.statement.closing_expression.Goals as goal

pub returns-clause-leads : goal.returns-clause-leads
returns-clause-leads c = λ s v d. closes read_expression mark.Semicolon s v c.expression.result c.closing.result (run 64 (an_expression (need mark.Semicolon ∷ s)) v (ahead c.args.cursor)) c.closing.ensures (c.expression.ensures.leads (need mark.Semicolon ∷ s) v d)

pub returns-clause-within : goal.returns-clause-within
returns-clause-within c = closes_less mark.Semicolon c.args.cursor c.expression.result c.closing.result c.closing.ensures c.expression.ensures.within
