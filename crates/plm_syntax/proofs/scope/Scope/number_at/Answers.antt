use Rattle.plm_syntax.specs.Inner.Names.{names_in}
use Rattle.plm_syntax.proofs.Numbers.{read_at}
use Rattle.plm_syntax.proofs.Facts.{number_is_at}
use Rattle.plm_syntax.proofs.scope.Scope.number_at.Goals as goal

pub returns-clause-number : goal.returns-clause-number
returns-clause-number c =
    let self = c.args.self.now in
    let l = c.in_ok-get.field-0.now in
    let x = c.in_ok-number.field-0.now in
    number_is_at (names_in self.names) self.literals.items c.args.literal c.args.at l x
    (read_at c.deref.result.now self.literals.items c.args.literal l c.deref.ensures.value c.in_ok-get.ensures.lookup.0 c.in_ok-get.ensures.lookup.1)
    (read_at c.deref-2.result.now l.numbers.items c.args.at x c.deref-2.ensures.value c.in_ok-number.ensures.lookup.0 c.in_ok-number.ensures.lookup.1)
    self.numbered
