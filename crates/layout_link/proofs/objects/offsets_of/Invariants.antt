use Rattle.std.proofs.Common.{◌≡◌, ◌+◌, ◌++◌, map, drop}
use Rattle.std.specs.List.{sum_by}
use Rattle.layout_link.specs.Objects.{offsets_from}
use Rattle.layout_link.proofs.objects.offsets_of.Given as goal

abbrev pub invariant-loop-object : goal.invariant-loop-object
invariant-loop-object l = record {
  so_far : offsets_from 2 (map (λ o. o.size) l.objects) ≡ l.offsets.items ++ offsets_from l.next (map (λ o. o.size) (drop l.object-index l.objects));
  room : l.next + sum_by (λ o. o.size) (drop l.object-index l.objects) ≡ 2 + sum_by (λ o. o.size) l.objects;
}
