use Rattle.std.proofs.Common.{◌≡◌, map, drop}
use Rattle.plm_decl.specs.Names.{object_of}
use Rattle.plm_decl.specs.Joins.{bytes_from}
use Rattle.plm_decl.proofs.resolver.Resolver.have_room.Given as goal

abbrev pub invariant-loop-object : goal.invariant-loop-object
invariant-loop-object l = bytes_from l.size (map object_of (drop l.object-index l.self.objects.items)) ≡ bytes_from 0 (map object_of l.self.objects.items)
