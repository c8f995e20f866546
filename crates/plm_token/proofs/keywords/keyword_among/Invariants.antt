use Rattle.std.proofs.Common.{◌≡◌, drop}
use Rattle.plm_token.specs.Names.{normal}
use Rattle.plm_token.specs.Inner.Keywords.{keyword_in}
use Rattle.plm_token.proofs.keywords.keyword_among.Given as goal

abbrev pub invariant-loop-word : goal.invariant-loop-word
invariant-loop-word l = keyword_in (normal l.name) l.words ≡ keyword_in (normal l.name) (drop l.word-index l.words)
