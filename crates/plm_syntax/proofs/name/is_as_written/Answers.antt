use Rattle.std.proofs.Common.{◌∙◌, sym}
use Rattle.plm_syntax.proofs.Written.{written_on, written_none}
use Rattle.plm_syntax.proofs.name.is_as_written.Goals as goal

pub loop-letter-preserved : goal.loop-letter-preserved
loop-letter-preserved c = λ same. c.loop-letter.invariant (written_on c.args.text.now c.loop-letter.letter-index c.loop-letter-test.true (sym c.changes.ensures ∙ c.if-changes.false) same)

pub returns : goal.returns
returns c = λ e. c.loop-letter.invariant (written_none c.args.text.now c.loop-letter.letter-index c.loop-letter-test.false)
