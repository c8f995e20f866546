use Rattle.std.proofs.Common.{◌≡◌, map, drop}
use Rattle.plm_syntax.specs.View.{name_of}
use Rattle.plm_decl.specs.Layout.{structure_of, scalar_of}
use Rattle.plm_decl.specs.Inner.Resolver.{known_of}
use Rattle.plm_decl.specs.Shape.{with_member_names}
use Rattle.plm_decl.proofs.resolver.Resolver.add_members.Given as goal

abbrev pub invariant-loop-name : goal.invariant-loop-name
invariant-loop-name l =
    with_member_names (map name_of (drop l.name-index l.name-items)) (scalar_of l.member.scalar) l.dimension (structure_of l.structure) (known_of l.self)
    ≡ with_member_names (map name_of l.name-items) (scalar_of l.member.scalar) l.dimension (structure_of l.initial.structure) (known_of l.initial.self)
