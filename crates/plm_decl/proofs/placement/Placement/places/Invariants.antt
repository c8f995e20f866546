use Rattle.std.proofs.Common.{map, ℕ, ◌<◌}
use Rattle.plm_decl.specs.Placement.{IsApart, IsWithin}
use Rattle.plm_decl.proofs.placement.Placement.places.Given as goal

abbrev pub invariant-loop-k : goal.invariant-loop-k
invariant-loop-k l =
    let offsets = l.self.offsets.items in
    let sizes = map (λ o. o.size) l.objects in
    record {
      within : (k : ℕ) → k < l.k → IsWithin offsets sizes k;
      apart : (k : ℕ) → k < l.k → IsApart offsets sizes k k;
    }
