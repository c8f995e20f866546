use Rattle.std.proofs.Common.{◌∷◌}
use Rattle.plm_syntax.specs.Terminal.{Key}
use Rattle.plm_syntax.specs.Inner.Symbol.{Need}
use Rattle.plm_syntax.specs.Inner.Parts.{read_expression}
use Rattle.plm_syntax.proofs.Joined.{closes_word, word_less}
use Rattle.plm_syntax.proofs.statement.expression_before.Goals as goal

pub returns-clause-leads : goal.returns-clause-leads
returns-clause-leads c = λ s v d. closes_word read_expression c.args.word s v c.in_ok-value.value c.in_ok-value.behind c.close_word.result c.close_word.ensures (c.in_ok-value.ensures.leads (Need (Key c.args.word) ∷ s) v d)

pub returns-clause-within : goal.returns-clause-within
returns-clause-within c = word_less c.args.word c.in_ok-value.value c.args.cursor c.in_ok-value.behind c.close_word.result c.close_word.ensures c.in_ok-value.ensures.within
