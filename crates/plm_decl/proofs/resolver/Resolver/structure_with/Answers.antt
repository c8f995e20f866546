use Rattle.std.proofs.Common.{List, map, sym, ◌∙◌}
use Rattle.std.proofs.lemmas.List.{at_drop_all}
use Rattle.plm_syntax.specs.declared.tree.Member.{Member}
use Rattle.plm_syntax.specs.View.{member_of}
use Rattle.plm_decl.specs.Layout.{structure_of}
use Rattle.plm_decl.specs.Inner.Resolver.{known_of}
use Rattle.plm_decl.specs.Shape.{structure_for}
use Rattle.plm_decl.proofs.resolver.Resolver.structure_with.Goals as goal

pub returns : goal.returns
returns c =
    let place = c.args.place in
    let here = c.loop-member in
    sym (at_drop_all (λ (l : List Member). structure_for place (map member_of l) (structure_of here.structure) (known_of here.self)) c.args.members.now here.member-index c.loop-member-test.false)
    ∙ here.invariant
