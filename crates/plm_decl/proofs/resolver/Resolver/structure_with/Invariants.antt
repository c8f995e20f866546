use Rattle.std.proofs.Common.{◌≡◌, map, drop}
use Rattle.plm_syntax.specs.View.{member_of}
use Rattle.plm_decl.specs.Layout.{structure_of, no_fields}
use Rattle.plm_decl.specs.Inner.Resolver.{known_of}
use Rattle.plm_decl.specs.Shape.{structure_for}
use Rattle.plm_decl.proofs.resolver.Resolver.structure_with.Given as goal

abbrev pub invariant-loop-member : goal.invariant-loop-member
invariant-loop-member l =
    structure_for l.place (map member_of (drop l.member-index l.members)) (structure_of l.structure) (known_of l.self)
    ≡ structure_for l.place (map member_of l.members) no_fields (known_of l.initial.self)
