use Rattle.std.proofs.Common.{◌≡◌, ◌++◌, drop, map}
use Rattle.listing_map.specs.Explaining.{text_of as named_text}
use Rattle.plm86.specs.Build.{text_of}
use Rattle.plm86.proofs.explained.named_texts.Given as goal

-- so far, and those that are left, are all
abbrev pub invariant-loop-source : goal.invariant-loop-source
invariant-loop-source l = map named_text l.texts.items ++ map text_of (drop l.source-index l.sources) ≡ map text_of l.sources
