use Rattle.std.proofs.Common.{◌++◌, List, map, append_assoc, ap, ◌∙◌}
use Rattle.plm_decl.specs.declared.found.Found.{Found}
use Rattle.plm_decl.specs.Names.{procedure_of, declared_location_of, main_of}
use Rattle.plm_decl.specs.Placement.{sizes_of}
use Rattle.plm_type.specs.Statements as statements
use Rattle.plm_type.proofs.checking.typed_names.Goals as goal

pub returns : goal.returns
returns c =
    let names = c.args.names.now in
    let vs = names.variables.items in
    let ps = map procedure_of names.procedures.items in
    let l = statements.of_locations vs ps (sizes_of names) (map declared_location_of names.locations.items) in
    let p = (statements.typed_procedures vs ps (sizes_of names) ps).faults in
    let m = (statements.typed_main vs ps (sizes_of names) (main_of names.main)).faults in
    let extra = c.in_ok-interrupt_faults.ensures in
    let typed = (λ j. (c.in_ok-main.ensures j).faults)
    ∙ ap (λ (x : List Found). x ++ m) ((λ j. (c.in_ok-procedures.ensures j).faults) ∙ ap (λ (x : List Found). x ++ p) (c.in_ok-locations.ensures ∙ ap (λ (x : List Found). x ++ l) c.new-faults.ensures.items))
    ∙ append_assoc l p m in
    record {
      faults = (extra.0, extra.1, extra.2 ∙ ap (λ (x : List Found). x ++ extra.0) typed);
      procedures = λ j. (c.in_ok-procedures.ensures j).tree;
      main = λ j. (c.in_ok-main.ensures j).tree;
    }
