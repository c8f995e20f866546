use Rattle.std.proofs.Common.{◌∙◌, sym}
use Rattle.std.proofs.lemmas.List.{drop_more, drop_all}
use Rattle.plm_token.proofs.Spelled.{differs_left, ends_left}
use Rattle.plm_token.proofs.letters.spells.Goals as goal

pub returns-then-ne : goal.returns-then-ne
returns-then-ne c =
    sym (c.loop-letter.invariant ∙ differs_left _ _ _ _ _ _ _ c.next.ensures.value (drop_more c.args.word.now c.loop-letter.letter-index 0 c.loop-letter-test.true) c.next.ensures.none c.ne.ensures c.if-ne.true)

pub returns : goal.returns
returns c =
    ends_left _ _ _ _ _ c.next-2.ensures.value (drop_all c.loop-letter.letter-index c.args.word.now c.loop-letter-test.false) c.next-2.ensures.none c.is_none.ensures ∙ sym c.loop-letter.invariant
