use Rattle.std.proofs.Common.{◌≡◌, ◌++◌, drop}
use Rattle.layout_link.specs.Inner.Bytes.{AreCoded, all_bytes}
use Rattle.layout_link.proofs.rom.write_all.Given as goal

abbrev pub invariant-loop-instruction : goal.invariant-loop-instruction
invariant-loop-instruction l = record {
  bytes : l.fn.code.items ++ all_bytes l.instructions ≡ l.code.items ++ all_bytes (drop l.instruction-index l.instructions);
  coded : AreCoded (drop l.instruction-index l.instructions) → AreCoded l.instructions;
}
