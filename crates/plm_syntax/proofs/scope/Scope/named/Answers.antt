use Rattle.std.proofs.Common.{◌∙◌, ℕ, List, length, Some, None, sym, ap, arith}
use Rattle.std.specs.Prelude.{bytes_eq}
use Rattle.std.proofs.lemmas.Option.{slice_get_past}
use Rattle.plm_syntax.specs.Inner.Scope.{place_in}
use Rattle.plm_syntax.proofs.Located.{named_there, named_nowhere, at_place, read_there}
use Rattle.plm_syntax.proofs.scope.Scope.named.Goals as goal

pub returns-then-eq-clause-named : goal.returns-then-eq-clause-named
returns-then-eq-clause-named c =
    let h = c.in_ok-literal.ensures.lookup in
    let l = c.in_ok-literal.literal.now in
    named_there c.args.name.now c.args.self.now.literals.items (place_in c.args.self.now.places) c.in_ok-place.field-0.now l c.args.self.now.placed
    (sym c.in_ok-place.ensures.value)
    (read_there c.deref.result.now c.args.self.now.literals.items c.in_ok-place.field-0.now l c.deref.ensures.value h.0 h.1)
    (ap (λ (xs : List ℕ). bytes_eq xs c.args.name.now) (sym c.letters.ensures) ∙ sym c.eq.ensures ∙ c.if-eq.true)

pub returns-else-eq-clause-named : goal.returns-else-eq-clause-named
returns-else-eq-clause-named c =
    let h = c.in_ok-literal.ensures.lookup in
    let l = c.in_ok-literal.literal.now in
    named_nowhere c.args.name.now c.args.self.now.literals.items (place_in c.args.self.now.places) c.args.self.now.placed
    (at_place c.args.name.now c.args.self.now.literals.items (place_in c.args.self.now.places) c.in_ok-place.field-0.now (Some l) (sym c.in_ok-place.ensures.value)
    (read_there c.deref.result.now c.args.self.now.literals.items c.in_ok-place.field-0.now l c.deref.ensures.value h.0 h.1)
    (ap (λ (xs : List ℕ). bytes_eq xs c.args.name.now) (sym c.letters.ensures) ∙ sym c.eq.ensures ∙ c.if-eq.false))

pub returns-in_err-literal-clause-named : goal.returns-in_err-literal-clause-named
returns-in_err-literal-clause-named c =
    c.from_residual-in_err-literal.ensures
    ∙ named_nowhere c.args.name.now c.args.self.now.literals.items (place_in c.args.self.now.places) c.args.self.now.placed
    (at_place c.args.name.now c.args.self.now.literals.items (place_in c.args.self.now.places) c.in_ok-place.field-0.now None (sym c.in_ok-place.ensures.value)
    (slice_get_past c.args.self.now.literals.items c.in_ok-place.field-0.now (omega (arith, c.in_err-literal.ensures.lookup.3, ap length c.deref.ensures.value))) tt)
