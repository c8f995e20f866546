use Rattle.std.proofs.Common.{◌≡◌, ◌++◌, drop, map}
use Rattle.listing_map.specs.Explaining.{text_of}
use Rattle.listing_map.proofs.explaining.pages.pages_of.Given as goal

-- so far, and those that are left, are all
abbrev pub invariant-loop-source : goal.invariant-loop-source
invariant-loop-source l = map (λ page. page.text.now) l.pages.items ++ map text_of (drop l.source-index l.sources) ≡ map text_of l.sources
