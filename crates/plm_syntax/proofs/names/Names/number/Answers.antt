use Rattle.std.proofs.Common.{◌≡◌, ◌∙◌, ◌∷◌, ◌++◌, [], List, length, map, take, true, ap, sym, subst, arith}
use Rattle.plm_syntax.specs.declared.names.FirstToken.{FirstToken}
use Rattle.plm_syntax.specs.Inner.NamedToken.{named_symbol}
use Rattle.plm_syntax.specs.Inner.Names.{is_number}
use Rattle.plm_syntax.proofs.Numbers.{number_new, names_kept}
use Rattle.plm_syntax.proofs.names.Names.number.Goals as goal

kept : (tokens after : List FirstToken) (t : FirstToken) → after ≡ tokens ++ t ∷ [] → take (length (map (λ t. named_symbol t.token.now) tokens)) (map (λ t. named_symbol t.token.now) after) ≡ map (λ t. named_symbol t.token.now) tokens
kept tokens after t e = ap (λ (ts : List FirstToken). take (length (map (λ t. named_symbol t.token.now) tokens)) (map (λ t. named_symbol t.token.now) ts)) e ∙ names_kept tokens t

pub returns-clause-kept : goal.returns-clause-kept
returns-clause-kept c = kept c.args.self.now.tokens.items _ (record { token = c.args.token }) c.in_ok-push.ensures.items

pub returns-in_err-insert-clause-kept : goal.returns-in_err-insert-clause-kept
returns-in_err-insert-clause-kept c = kept c.args.self.now.tokens.items _ (record { token = c.args.token }) c.in_ok-push.ensures.items

pub returns-clause-number : goal.returns-clause-number
returns-clause-number c =
    let t : FirstToken = record { token = c.args.token } in
    subst (λ (ts : List FirstToken). is_number (map (λ t. named_symbol t.token.now) ts) c.len-number.result (named_symbol c.args.token.now) ≡ true) (sym c.in_ok-push.ensures.items)
    (number_new c.args.self.now.tokens.items c.len-number.result t (omega (arith, c.len-number.ensures)) (sym c.is_identifier.ensures ∙ c.if-not-is_identifier.false))
