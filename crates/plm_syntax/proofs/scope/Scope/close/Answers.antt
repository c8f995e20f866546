use Rattle.std.proofs.Common.{List, sym, subst}
use Rattle.std.specs.List.{All}
use Rattle.std.proofs.lemmas.List.Elements.{All-take}
use Rattle.plm_syntax.specs.declared.scope.Literal.{Literal}
use Rattle.plm_syntax.specs.Inner.Names.{names_in}
use Rattle.plm_syntax.specs.Inner.Scope.{place_in, ArePlaced, AreFirst, IsNumbered}
use Rattle.plm_syntax.proofs.Located.{placed_fewer}
use Rattle.plm_syntax.proofs.Numbers.{firsts_fewer}
use Rattle.plm_syntax.proofs.Turned.{closed_turned}
use Rattle.plm_syntax.proofs.scope.Scope.close.Goals as goal

pub invariant_of-self : goal.invariant_of-self
invariant_of-self c =
    let n = c.in-Some.start in
    let self = c.args.self.now in
    record {
      placed = subst (λ (literals : List Literal). ArePlaced literals (place_in self.places)) (sym c.truncate.ensures.items) (placed_fewer n self.literals.items (place_in self.places) self.placed);
      first = subst (λ (literals : List Literal). AreFirst literals) (sym c.truncate.ensures.items) (firsts_fewer n self.literals.items self.first);
      numbered = subst (λ (literals : List Literal). All (λ l. IsNumbered (names_in self.names) l) literals) (sym c.truncate.ensures.items)
          (All-take (λ l. IsNumbered (names_in self.names) l) n self.literals.items self.numbered);
    }

pub returns-in-Some-clause-closed : goal.returns-in-Some-clause-closed
returns-in-Some-clause-closed c =
    closed_turned c.args.self.now.literals.items c.truncate.new.self.items c.args.self.now.starts.items c.pop.new.self.items c.in-Some.start c.in-Some.ensures.items c.truncate.ensures.items
