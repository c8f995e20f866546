use Rattle.std.proofs.Common.{◌∙◌, sym, ap}
use Rattle.plm_token.specs.Names.{normal}
use Rattle.plm_token.proofs.NormalForm.{normal-nil}
use Rattle.plm_token.proofs.Spelled.{differs_right, ends_right}
use Rattle.plm_token.proofs.letters.same_name.Goals as goal

pub returns-then-ne : goal.returns-then-ne
returns-then-ne c = sym (c.loop-letter.invariant ∙ differs_right _ _ _ _ _ _ _ c.in-Some.ensures.value c.next-in-Some.ensures.value c.next-in-Some.ensures.none c.ne.ensures c.if-ne.true)

pub returns : goal.returns
returns c =
    let ended = c.in_default.ensures.value ∙ ap normal c.in_default.ensures.none ∙ normal-nil in
    ends_right _ _ _ _ _ ended c.next-2.ensures.value c.next-2.ensures.none c.is_none.ensures ∙ sym c.loop-letter.invariant
