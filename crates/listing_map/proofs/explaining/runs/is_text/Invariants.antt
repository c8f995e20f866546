use Rattle.std.proofs.Common.{◌≡◌, drop}
use Rattle.listing_map.specs.Explaining.{is_text}
use Rattle.listing_map.proofs.explaining.runs.is_text.Given as goal

abbrev pub invariant-loop-byte : goal.invariant-loop-byte
invariant-loop-byte l = is_text (drop l.byte-index l.file) ≡ is_text l.file
