use Rattle.std.proofs.Common.{◌≡◌, suc, ◌-◌, ◌+◌, false, true, drop, get_or, nat_le, ap, sym, ◌∙◌, arith}
use Rattle.plm_type.specs.View.{statement_of, statements_of}
use Rattle.lower.specs.Statements.{is_silent, are_silent}
use Rattle.lower.proofs.LastCode.{last, none}
use Rattle.lower.proofs.silence.+silence.Goals as goal

pub is_silent-returns-in-Block : goal.is_silent-returns-in-Block
is_silent-returns-in-Block t c =
    c.are_silent.ensures ∙ ap (λ ss. are_silent (statements_of ss)) c.deref.ensures.value ∙ sym (ap is_silent (ap statement_of c.in-Block.is ∙ c.trees_have_their_lists.ensures.block c.in-Block.body))

pub with_code-returns-then-not-is_silent : goal.with_code-returns-then-not-is_silent
with_code-returns-then-not-is_silent t c k in_range =
    let body = c.args.body.now in
    let m = c.loop-k.k - 1 in
    let some : suc m ≡ c.loop-k.k = omega (arith, c.loop-k-test.true) in
    let here : is_silent (statement_of (get_or body m c.index-body-k.result).value) ≡ false =
    ap (λ b. is_silent (statement_of b.value)) (sym c.index-body-k.is) ∙ sym (ap (λ s. is_silent (statement_of s)) c.deref.ensures) ∙ sym c.is_silent.ensures ∙ c.if-not-is_silent.true in
    let behind : are_silent (statements_of (drop (suc m) body)) ≡ true = ap (λ n. are_silent (statements_of (drop n body))) some ∙ c.loop-k.invariant in
    let one : m + 1 ≡ suc m = omega arith in
    ap (λ n. nat_le n k) one ∙ last body m c.index-body-k.result (omega (arith, some, c.loop-k.auto.k)) here behind k

pub with_code-returns : goal.with_code-returns
with_code-returns t c k in_range =
    let body = c.args.body.now in
    let at : 0 ≡ c.loop-k.k = omega (arith, c.loop-k-test.false) in
    let all : are_silent (statements_of body) ≡ true = ap (λ n. are_silent (statements_of (drop n body))) at ∙ c.loop-k.invariant in
    none body k all
