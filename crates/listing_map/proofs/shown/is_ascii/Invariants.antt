use Rattle.std.proofs.Common.{◌≡◌, drop}
use Rattle.listing_map.specs.Messages.{is_ascii}
use Rattle.listing_map.proofs.shown.is_ascii.Given as goal

abbrev pub invariant-loop-byte : goal.invariant-loop-byte
invariant-loop-byte l = is_ascii (drop l.byte-index l.text) ≡ is_ascii l.text
