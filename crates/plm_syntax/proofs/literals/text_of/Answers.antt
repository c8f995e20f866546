use Rattle.std.proofs.Common.{◌∙◌, List, map, Some, Ok, sym, ap}
use Rattle.plm_token.specs.declared.token.Token.{Token}
use Rattle.plm_token.specs.Literals.{Symbol}
use Rattle.plm_syntax.specs.Inner.NamedToken.{symbol}
use Rattle.plm_syntax.proofs.Replaced.{text_ok}
use Rattle.plm_syntax.proofs.literals.text_of.Goals as goal

pub returns-in_ok-tokens-in-Ok-clause-ok : goal.returns-in_ok-tokens-in-Ok-clause-ok
returns-in_ok-tokens-in-Ok-clause-ok c =
    ap (λ (ss : List Symbol). Some (Ok ss)) (c.in_ok-tokens-in-Ok.ensures.ok ∙ ap (λ (ts : List Token). map symbol ts) c.as_slice.ensures.value)
    ∙ text_ok c.args.token.kind c.args.token.text.now c.between.result.now c.in-Ok.tokens.items (sym c.is_string.ensures ∙ c.if-is_string.true) c.between.ensures c.in-Ok.ensures
