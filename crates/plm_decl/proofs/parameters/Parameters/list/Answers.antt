use Rattle.std.proofs.Common.{List, map, sym, ◌∙◌}
use Rattle.std.proofs.lemmas.List.{at_drop_all}
use Rattle.plm_syntax.specs.declared.tree.Name.{Name}
use Rattle.plm_syntax.specs.View.{name_of}
use Rattle.plm_decl.specs.Inner.Scope.{entries_of}
use Rattle.plm_decl.specs.Inner.Parameters.{listed_after}
use Rattle.plm_decl.proofs.parameters.Parameters.list.Goals as goal

pub returns : goal.returns
returns c =
    let here = c.loop-name in
    sym (at_drop_all (λ (l : List Name). listed_after (entries_of here.by_name) (map name_of l)) c.args.names.now here.name-index c.loop-name-test.false)
    ∙ here.invariant
