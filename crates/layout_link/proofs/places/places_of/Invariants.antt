use Rattle.std.proofs.Common.{◌≡◌, ◌+◌, ◌++◌, drop}
use Rattle.layout_link.specs.Places.{total_of, places_from}
use Rattle.layout_link.proofs.places.places_of.Given as goal

abbrev pub invariant-loop-part : goal.invariant-loop-part
invariant-loop-part l = record {
  so_far : places_from l.from l.parts ≡ l.places.items ++ places_from l.place (drop l.part-index l.parts);
  room : l.place + total_of (drop l.part-index l.parts) ≡ l.from + total_of l.parts;
}
