-- The segment of a place, as proofs about its rows name it.
use Rattle.word86.specs.declared.place.Place.{Place}
use Rattle.word86.specs.declared.place.Place.TheVariants as place
use Rattle.i86_table.specs.declared.registers.Segment.{Segment}
use Rattle.i86_table.specs.declared.registers.Segment.TheVariants as segments

abbrev pub segment_of : Place → Segment
segment_of (place.Ram k x) = segments.Ds
segment_of (place.Screen page x) = segments.Es
