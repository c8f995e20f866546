use Rattle.std.proofs.Common.{◌≡◌, map, drop}
use Rattle.plm_syntax.specs.View.{name_of, item_of}
use Rattle.plm_decl.specs.Stray.{stray_items}
use Rattle.plm_decl.proofs.stray.stray_items.Given as goal

abbrev pub invariant-loop-item : goal.invariant-loop-item
invariant-loop-item l = stray_items (map name_of l.parameters.names.now) (map item_of (drop l.item-index l.items)) ≡ stray_items (map name_of l.parameters.names.now) (map item_of l.items)
