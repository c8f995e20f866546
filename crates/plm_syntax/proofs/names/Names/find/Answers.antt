use Rattle.plm_syntax.specs.Inner.NamedToken.{named_symbol}
use Rattle.plm_syntax.proofs.Numbers.{number_there, read_at}
use Rattle.plm_syntax.proofs.names.Names.find.Goals as goal

pub returns-then-has_same_name : goal.returns-then-has_same_name
returns-then-has_same_name c =
    number_there c.args.self.now.tokens.items c.in_ok-number.field-0.now c.in_ok-first.field-0.now (named_symbol c.args.token.now)
    (read_at c.deref.result.now c.args.self.now.tokens.items c.in_ok-number.field-0.now c.in_ok-first.field-0.now c.deref.ensures.value c.in_ok-first.ensures.lookup.0 c.in_ok-first.ensures.lookup.1)
    (c.has_same_name.ensures c.if-has_same_name.true)
