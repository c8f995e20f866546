use Rattle.std.proofs.Common.{◌≡◌, ◌++◌, ◌+◌, ◌*◌, length}
use Rattle.listing_map.specs.Halves.{interleaved}
use Rattle.listing_map.proofs.halves.rom_halves.Given as goal

abbrev pub invariant-loop-rest : goal.invariant-loop-rest
invariant-loop-rest l = record {
  joined : interleaved l.even.items l.odd.items ++ l.rest ≡ l.fn.rom;
  same : length l.even.items ≡ length l.odd.items;
  whole : 2 * length l.even.items + length l.rest ≡ length l.fn.rom;
}

abbrev pub decreases-loop-rest : goal.decreases-loop-rest
decreases-loop-rest l = length l.rest
