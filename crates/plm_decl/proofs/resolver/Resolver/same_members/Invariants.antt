use Rattle.std.proofs.Common.{◌≡◌, map, drop}
use Rattle.plm_decl.specs.Layout.{field_of}
use Rattle.plm_decl.specs.Joins.{same_members}
use Rattle.plm_decl.proofs.resolver.Resolver.same_members.Given as goal

abbrev pub invariant-loop-field : goal.invariant-loop-field
invariant-loop-field l = same_members (map field_of (drop l.field-index l.a)) (map field_of l.others) ≡ same_members (map field_of l.a) (map field_of l.b)
