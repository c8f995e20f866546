use Rattle.std.proofs.Common.{List, map, sym, ◌∙◌}
use Rattle.std.proofs.lemmas.List.{at_drop_all}
use Rattle.plm_syntax.specs.declared.tree.Module.{Module}
use Rattle.plm_syntax.specs.View.{module_of}
use Rattle.plm_decl.specs.Inner.Resolver.{known_of}
use Rattle.plm_decl.specs.Joins.{modules_from}
use Rattle.plm_decl.proofs.modules.walked.Goals as goal

pub returns : goal.returns
returns c =
    let here = c.loop-number in
    sym (at_drop_all (λ (l : List Module). modules_from here.number (map module_of l) (known_of here.resolver)) c.args.modules.now here.number c.loop-number-test.false)
    ∙ here.invariant
