use Rattle.std.proofs.Common.{refl}
use Rattle.i86_table.proofs.PairProofs.{word_pair_is}
use Rattle.i86_table.proofs.pairs.WordPair.of.Goals as goal

pub returns : goal.returns
returns c = word_pair_is c.args.a c.args.b c.turned-first.result _ (rw (c.number.ensures.value, c.number-2.ensures.value) at c.turned-first.ensures) refl refl
