use Rattle.std.proofs.Common.{ap, sym, refl, length, arith}
use Rattle.plm_token.specs.Scanner.{lexemes}
use Rattle.plm_syntax.specs.declared.cursor.Cursor.{Cursor}
use Rattle.plm_syntax.specs.Literals.{expanded}
use Rattle.plm_syntax.specs.Literals.{expansion_view}
use Rattle.plm_syntax.proofs.Bounded.{expansion_bounded}
use Rattle.plm_syntax.proofs.Answered.{left_of, answer}
use Rattle.plm_syntax.proofs.answer.parse.Goals as goal

pub invariant_of-start : goal.invariant_of-start
invariant_of-start c = omega (arith, expansion_bounded c.in_ok-expansion.expansion (lexemes c.args.tokens.items) c.in_ok-expansion.ensures.ok, ap length c.as_slice-out.ensures.value)

pub answered-requires : goal.answered-requires
answered-requires c =
    let start : Cursor = record { tokens = c.as_slice-out.result; number = 0; numbered = omega (arith, expansion_bounded c.in_ok-expansion.expansion (lexemes c.args.tokens.items) c.in_ok-expansion.ensures.ok, ap length c.as_slice-out.ensures.value) } in
    left_of start c.module.result refl c.module.ensures

pub returns : goal.returns
returns c =
    let start : Cursor = record { tokens = c.as_slice-out.result; number = 0; numbered = omega (arith, expansion_bounded c.in_ok-expansion.expansion (lexemes c.args.tokens.items) c.in_ok-expansion.ensures.ok, ap length c.as_slice-out.ensures.value) } in
    answer (expansion_view c.in_ok-expansion.expansion) (expanded (lexemes c.args.tokens.items)) start c.module.result c.answered.result
    c.in_ok-expansion.ensures.ok (ap lexemes (sym c.as_slice-out.ensures.value)) refl c.module.ensures c.answered.ensures.tree c.answered.ensures.stop c.answered.ensures.failure
