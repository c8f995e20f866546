use Rattle.plm_token.specs.Names.{normal}
use Rattle.std.proofs.Common.{◌∙◌, ap}
use Rattle.plm_token.specs.Numbers.{digits_from}
use Rattle.plm_token.proofs.NormalForm.{past_limit, no_more_digits}
use Rattle.plm_token.proofs.numbers.value.Goals as goal

pub returns-then-value-gt-GREATEST : goal.returns-then-value-gt-GREATEST
returns-then-value-gt-GREATEST c =
    past_limit c.args.base c.loop-letter.value c.in-Some.letter c.in_ok-value.field-0 (normal c.args.digits.now) (normal c.loop-letter.letters.rest.now) (normal c.next.new.self.rest.now) c.requires.some c.loop-letter.invariant.same c.in-Some.ensures.value c.in_ok-value.ensures.value c.if-value-gt-GREATEST.true

pub returns : goal.returns
returns c =
    no_more_digits c.args.base c.loop-letter.value (normal c.args.digits.now) c.next.new.self.rest.now (c.loop-letter.invariant.same ∙ ap (digits_from c.args.base c.loop-letter.value) c.in_default.ensures.value) c.in_default.ensures.none c.loop-letter.invariant.inside
