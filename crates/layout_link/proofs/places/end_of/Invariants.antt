use Rattle.std.proofs.Common.{◌≡◌, ◌+◌, drop}
use Rattle.layout_link.specs.Places.{total_of}
use Rattle.layout_link.proofs.places.end_of.Given as goal

abbrev pub invariant-loop-part : goal.invariant-loop-part
invariant-loop-part l = l.end + total_of (drop l.part-index l.parts) ≡ l.from + total_of l.parts
