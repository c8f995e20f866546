use Rattle.std.proofs.Common.{◌≡◌, ◌∙◌, ℕ, List, length, take, is_ok, ap, sym, subst}
use Rattle.std.specs.List.{All}
use Rattle.plm_syntax.specs.declared.scope.Literal.{Literal}
use Rattle.plm_syntax.specs.Inner.Names.{names_in}
use Rattle.plm_syntax.specs.Inner.Scope.{place_in, letters_of, first_named, ArePlaced, AreFirst, IsNumbered}
use Rattle.plm_syntax.proofs.Located.{placed_so}
use Rattle.plm_syntax.specs.declared.names.Names.{Names}
use Rattle.plm_syntax.proofs.Numbers.{kept_along, numbered_still, numbered_so, numbered_new, none_there, firsts_so}
use Rattle.plm_syntax.proofs.scope.Scope.declare.Goals as goal

-- names that were kept where the table of places changed between
kept_past : (a b c d : Names) → take (length (names_in a)) (names_in b) ≡ names_in a → c ≡ b → take (length (names_in c)) (names_in d) ≡ names_in c → take (length (names_in a)) (names_in d) ≡ names_in a
kept_past a b c d h same k = kept_along (names_in a) (names_in b) (names_in d) h (subst (λ (n : Names). take (length (names_in n)) (names_in d) ≡ names_in n) same k)

pub returns-clause-names : goal.returns-clause-names
returns-clause-names c = kept_past c.args.self.now.names c.number.new.self c.enter.new.self.names c.numbers_of.new.names c.number.ensures.kept c.in_ok-enter.ensures.names c.numbers_of.ensures.kept

pub returns-in_err-numbers-clause-names : goal.returns-in_err-numbers-clause-names
returns-in_err-numbers-clause-names c = kept_past c.args.self.now.names c.number.new.self c.enter.new.self.names c.numbers_of.new.names c.number.ensures.kept c.in_ok-enter.ensures.names c.numbers_of.ensures.kept

pub returns-in_err-push-clause-names : goal.returns-in_err-push-clause-names
returns-in_err-push-clause-names c = kept_past c.args.self.now.names c.number.new.self c.enter.new.self.names c.numbers_of.new.names c.number.ensures.kept c.in_ok-enter.ensures.names c.numbers_of.ensures.kept

pub invariant_of-self : goal.invariant_of-self
invariant_of-self c =
    let self = c.args.self.now in
    record { placed = self.placed; first = self.first; numbered = numbered_still (names_in self.names) (names_in c.number.new.self) self.literals.items c.number.ensures.kept self.numbered }

pub invariant_of-self-in-Break-branch-4 : goal.invariant_of-self-in-Break-branch-4
invariant_of-self-in-Break-branch-4 c =
    let self = c.enter.new.self in
    record { placed = self.placed; first = self.first; numbered = numbered_still (names_in self.names) (names_in c.numbers_of.new.names) self.literals.items c.numbers_of.ensures.kept self.numbered }

pub invariant_of-self-2 : goal.invariant_of-self-2
invariant_of-self-2 c =
    let self = c.args.self.now in
    record { placed = self.placed; first = self.first; numbered = numbered_still (names_in self.names) (names_in c.number.new.self) self.literals.items c.number.ensures.kept self.numbered }

pub invariant_of-self-3 : goal.invariant_of-self-3
invariant_of-self-3 c =
    let self = c.enter.new.self in
    let ls : List Literal = self.literals.items in
    let names = names_in c.numbers_of.new.names in
    let literal : Literal = record {
      name = c.args.name;
      text = c.args.text;
      number = c.in_ok-number.number;
      is_first = c.is_none-is_first.result;
      numbers = c.in_ok-numbers.numbers;
      place = c.places-place.result;
    } in
    let new : IsNumbered names literal
    = numbered_new c.number.new.self self.names names literal c.as_slice.result.now c.in_ok-enter.ensures.names c.in_ok-number.ensures.number c.numbers_of.ensures.kept
    c.as_slice.ensures.value c.in_ok-numbers.ensures.numbers c.in_ok-numbers.ensures.all in
    let found : c.named.result ≡ first_named (letters_of literal.name.now.name) ls
    = c.named.ensures.named
    ∙ ap (λ (name : List ℕ). first_named name c.args.self.now.literals.items) c.letters.ensures
    ∙ ap (λ (xs : List Literal). first_named (letters_of literal.name.now.name) xs) (sym c.in_ok-enter.ensures.literals) in
    record {
      placed = subst (λ (xs : List Literal). ArePlaced xs (place_in self.places)) (sym c.push.ensures.items)
          (placed_so (is_ok c.push.result) c.letters-2.result.now ls literal (place_in self.places) self.placed c.in_ok-enter.ensures.entered (sym c.letters-2.ensures));
      first = subst (λ (xs : List Literal). AreFirst xs) (sym c.push.ensures.items)
          (firsts_so (is_ok c.push.result) ls literal self.first (λ is. none_there c.named.result literal.is_first c.is_none-is_first.ensures is ∙ found));
      numbered = subst (λ (xs : List Literal). All (λ l. IsNumbered names l) xs) (sym c.push.ensures.items)
          (numbered_so (is_ok c.push.result) names ls literal (numbered_still (names_in self.names) names ls c.numbers_of.ensures.kept self.numbered) new);
    }
