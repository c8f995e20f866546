use Rattle.std.proofs.Common.{map}
use Rattle.plm_decl.specs.Placement.{IsApart}
use Rattle.plm_decl.proofs.placement.Placement.is_apart.Given as goal

abbrev pub invariant-loop-j : goal.invariant-loop-j
invariant-loop-j l = IsApart l.self.offsets.items (map (λ o. o.size) l.objects) l.k l.j
