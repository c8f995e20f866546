use Rattle.std.proofs.Common.{◌≡◌, ◌∙◌, sym, refl, length, true, false, Some}
use Rattle.std.specs.Prelude.{slice_get}
use Rattle.std.proofs.lemmas.Bool.{ltb-true, ltb-false}
use Rattle.std.proofs.lemmas.Option.{slice_get_read, slice_get_past}
use Rattle.plm_syntax.proofs.Answered.{opening_at, opening_past}
use Rattle.plm_syntax.proofs.answer.opening.Goals as goal

pub returns-then-is_procedure : goal.returns-then-is_procedure
returns-then-is_procedure c =
    let ts = c.args.tokens.now in
    let there = c.in-Some.ensures.lookup in
    let found : slice_get ts c.args.number ≡ Some c.in-Some.token.now = slice_get_read ts (length ts) c.args.number c.in-Some.token.now refl (ltb-true c.args.number (length ts) (sym there.0)) there.1 in
    c.saturating_sub.ensures ∙ opening_at c.args.number ts c.in-Some.token.now true found (λ text p. c.if-is_procedure.ensures text p)

pub returns-else-is_procedure : goal.returns-else-is_procedure
returns-else-is_procedure c =
    let ts = c.args.tokens.now in
    let there = c.in-Some.ensures.lookup in
    let found : slice_get ts c.args.number ≡ Some c.in-Some.token.now = slice_get_read ts (length ts) c.args.number c.in-Some.token.now refl (ltb-true c.args.number (length ts) (sym there.0)) there.1 in
    opening_at c.args.number ts c.in-Some.token.now false found (λ text p. c.if-is_procedure.ensures text p)

pub returns-in-None : goal.returns-in-None
returns-in-None c =
    let ts = c.args.tokens.now in
    opening_past c.args.number ts (slice_get_past ts c.args.number (ltb-false c.args.number (length ts) (sym c.in-None.ensures.lookup.0)))
