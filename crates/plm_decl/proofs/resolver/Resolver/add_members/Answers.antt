use Rattle.std.proofs.Common.{List, map, sym, ◌∙◌}
use Rattle.std.proofs.lemmas.List.{at_drop_all}
use Rattle.plm_syntax.specs.declared.tree.Name.{Name}
use Rattle.plm_syntax.specs.View.{name_of}
use Rattle.plm_decl.specs.Layout.{structure_of, scalar_of}
use Rattle.plm_decl.specs.Inner.Resolver.{known_of}
use Rattle.plm_decl.specs.Shape.{with_member_names}
use Rattle.plm_decl.proofs.ListViews.{with_members_is}
use Rattle.plm_decl.proofs.resolver.Resolver.add_members.Goals as goal

pub returns : goal.returns
returns c =
    let m = c.args.member.now in
    let here = c.loop-name in
    let scalar = scalar_of m.scalar in
    let counted = c.in_ok-dimension in
    let names = c.member_names-name-items in
    sym (at_drop_all (λ (l : List Name). with_member_names (map name_of l) scalar counted.dimension (structure_of here.structure) (known_of here.self)) names.result.now here.name-index c.loop-name-test.false)
    ∙ here.invariant
    ∙ (λ j. with_member_names (names.ensures j) scalar (counted.ensures j).0 (structure_of c.args.structure.now) (counted.ensures j).1)
    ∙ sym (with_members_is c.args.place m (structure_of c.args.structure.now) (known_of c.args.self.now))
