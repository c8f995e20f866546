use Rattle.std.proofs.Common.{◌≡◌, map, drop}
use Rattle.plm_decl.specs.Layout.{field_of, scalar_in}
use Rattle.plm_decl.proofs.structure.Structure.scalar_at.Given as goal

abbrev pub invariant-loop-field : goal.invariant-loop-field
invariant-loop-field l = scalar_in (map field_of (drop l.field-index l.members)) l.left ≡ scalar_in (map field_of l.self.fields.items) l.position
