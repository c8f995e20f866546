use Rattle.std.proofs.Common.{◌≡◌, drop}
use Rattle.word86.specs.Place.{bytes, held}
use Rattle.icode.proofs.ram_objects.RamObjects.held.Given as goal

-- the object is among those that are left
abbrev pub invariant-loop-k : goal.invariant-loop-k
invariant-loop-k l = held 0 l.self.offsets.now l.self.sizes.now l.address (bytes l.width) ≡ held l.k (drop l.k l.self.offsets.now) (drop l.k l.self.sizes.now) l.address (bytes l.width)
