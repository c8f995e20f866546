use Rattle.std.proofs.Common.{◌≡◌, drop}
use Rattle.layout_link.specs.Inner.Words.{filled}
use Rattle.layout_link.proofs.words.fill.Given as goal

abbrev pub invariant-loop-fixup : goal.invariant-loop-fixup
invariant-loop-fixup l = filled l.offsets l.places l.base l.fn.bytes l.fixups ≡ filled l.offsets l.places l.base l.bytes (drop l.fixup-index l.fixups)
