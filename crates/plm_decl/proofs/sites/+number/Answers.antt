use Rattle.std.proofs.Common.{◌≡◌, true, false, None, cond, length, nat_eq, sym, ap, ◌∙◌}
use Rattle.plm_decl.specs.declared.resolved.Expression.{Expression}
use Rattle.plm_decl.specs.ResolvedView as view
use Rattle.plm_decl.specs.Sites.{number_in}
use Rattle.plm_decl.proofs.Chains.{chain_number}
use Rattle.plm_decl.proofs.sites.+number.Goals as goal

pub returns-then-is_empty : goal.returns-then-is_empty
returns-then-is_empty t c =
    let at = c.in-Chain in
    let left = view.expression_of at.first.value in
    let empty : nat_eq (length at.others.items) 0 ≡ true = sym (ap (λ n. nat_eq n 0) at.others.ok.0) ∙ sym c.is_empty.ensures ∙ c.if-is_empty.true in
    c.number.ensures
    ∙ ap (λ (e : Expression). number_in (view.expression_of e)) c.deref.ensures
    ∙ sym (ap (λ b. cond b (number_in left) None) empty)
    ∙ sym (chain_number left at.others)
    ∙ ap (λ (e : Expression). number_in (view.expression_of e)) (sym at.is)

pub returns-else-is_empty : goal.returns-else-is_empty
returns-else-is_empty t c =
    let at = c.in-Chain in
    let left = view.expression_of at.first.value in
    let some : nat_eq (length at.others.items) 0 ≡ false = sym (ap (λ n. nat_eq n 0) at.others.ok.0) ∙ sym c.is_empty.ensures ∙ c.if-is_empty.false in
    sym (ap (λ b. cond b (number_in left) None) some)
    ∙ sym (chain_number left at.others)
    ∙ ap (λ (e : Expression). number_in (view.expression_of e)) (sym at.is)
