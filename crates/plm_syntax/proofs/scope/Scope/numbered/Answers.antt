use Rattle.plm_syntax.specs.Inner.Names.{names_in}
use Rattle.plm_syntax.proofs.Numbers.{read_at, stands_at}
use Rattle.plm_syntax.proofs.scope.Scope.numbered.Goals as goal

pub returns-then-is_number-clause-stands : goal.returns-then-is_number-clause-stands
returns-then-is_number-clause-stands c =
    let self = c.args.self.now in
    let place = c.in_ok-place.field-0.now in
    let l = c.in_ok-literal.literal.now in
    stands_at (names_in self.names) self.literals.items c.args.number place l
    (read_at c.deref-2.result.now self.literals.items place l c.deref-2.ensures.value c.in_ok-literal.ensures.lookup.0 c.in_ok-literal.ensures.lookup.1)
    c.if-literal.true (c.is_number.ensures c.if-is_number.true) self.first self.numbered
