use Rattle.std.proofs.Common.{◌≡◌, ◌+◌, ◌%◌, ◌≤◌, drop}
use Rattle.listing_map.specs.Records.{total}
use Rattle.listing_map.proofs.records.low_total.Given as goal

abbrev pub invariant-loop-byte : goal.invariant-loop-byte
invariant-loop-byte l = record {
  below : l.sum ≤ 255;
  all : (l.sum + total (drop l.byte-index l.bytes)) % 256 ≡ total l.bytes % 256;
}
