use Rattle.std.proofs.Common.{◌≡◌, ◌++◌, drop}
use Rattle.layout_link.specs.Inner.Bytes.{all_filled}
use Rattle.layout_link.proofs.rom.write_parts.Given as goal

abbrev pub invariant-loop-k : goal.invariant-loop-k
invariant-loop-k l = l.fn.rom.items ++ all_filled l.offsets l.places 0 l.parts ≡ l.rom.items ++ all_filled l.offsets l.places l.k (drop l.k l.parts)
