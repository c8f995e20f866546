use Rattle.std.proofs.Common.{List, sym, ◌∙◌}
use Rattle.std.proofs.lemmas.List.{at_drop_all}
use Rattle.plm_decl.specs.declared.found.Found.{Found}
use Rattle.plm_decl.specs.Least.{least}
use Rattle.plm_decl.proofs.Least.{if_found, if_none}
use Rattle.plm_decl.proofs.found.least.Goals as goal

pub returns-clause-found : goal.returns-clause-found
returns-clause-found c =
    let fs = c.args.faults.now in
    let here = c.loop-found in
    if_found fs here.first (sym (at_drop_all (λ (l : List Found). least here.first l) fs here.found-index c.loop-found-test.false) ∙ here.invariant)

pub returns-clause-none : goal.returns-clause-none
returns-clause-none c =
    let fs = c.args.faults.now in
    let here = c.loop-found in
    if_none fs here.first (sym (at_drop_all (λ (l : List Found). least here.first l) fs here.found-index c.loop-found-test.false) ∙ here.invariant)
