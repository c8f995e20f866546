use Rattle.std.proofs.Common.{ℕ, List, Option, sym, subst, arith}
use Rattle.plm_token.specs.Literals.{Symbol}
use Rattle.plm_syntax.specs.declared.named_token.NamedToken.{NamedToken}
use Rattle.plm_syntax.specs.Inner.Names.{names_in}
use Rattle.plm_syntax.specs.Inner.Scope.{HaveNumbers}
use Rattle.plm_syntax.proofs.Numbers.{numbers_more, numbers_still, kept_along}
use Rattle.plm_syntax.proofs.scope.numbers_of.Goals as goal

pub loop-token-preserved : goal.loop-token-preserved
loop-token-preserved c =
    let before : List Symbol = names_in c.loop-token.names in
    let after : List Symbol = names_in c.number.new.self in
    let text : List NamedToken = c.args.text.now in
    let numbers : List (Option ℕ) = c.loop-token.numbers.items in (
      subst (λ (ns : List (Option ℕ)). HaveNumbers after text ns) (sym c.in_ok-push.ensures.items)
          (numbers_more after text numbers c.loop-token.token-index c.token-item.result c.in_ok-number.number c.loop-token.invariant.1 c.loop-token-test.true c.token-item.is c.in_ok-number.ensures.number
          (numbers_still before after text numbers c.number.ensures.kept c.loop-token.invariant.0)),
      omega (arith, c.in_ok-push.ensures.len, c.loop-token.invariant.1),
      kept_along (names_in c.args.names.now) before after c.loop-token.invariant.2 c.number.ensures.kept,
    )

pub returns-in_err-number-clause-kept : goal.returns-in_err-number-clause-kept
returns-in_err-number-clause-kept c = kept_along (names_in c.args.names.now) (names_in c.loop-token.names) (names_in c.number.new.self) c.loop-token.invariant.2 c.number.ensures.kept

pub returns-in_err-push-clause-kept : goal.returns-in_err-push-clause-kept
returns-in_err-push-clause-kept c = kept_along (names_in c.args.names.now) (names_in c.loop-token.names) (names_in c.number.new.self) c.loop-token.invariant.2 c.number.ensures.kept
