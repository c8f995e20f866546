use Rattle.std.proofs.Common.{◌≡◌, ◌++◌, drop, map}
use Rattle.listing_map.specs.Messages.{blank}
use Rattle.listing_map.proofs.shown.blanks_of_bytes.Given as goal

abbrev pub invariant-loop-byte : goal.invariant-loop-byte
invariant-loop-byte l = l.blanks.items ++ map blank (drop l.byte-index l.text) ≡ map blank l.text
