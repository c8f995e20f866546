use Rattle.std.proofs.Common.{◌∷◌, [], List, sym, ap, ◌∙◌}
use Rattle.plm_syntax.specs.declared.tree.Name.{Name as NameTree}
use Rattle.plm_syntax.specs.Inner.Symbol.{Want, ParametersG}
use Rattle.plm_syntax.specs.Inner.Machine.{run}
use Rattle.plm_syntax.specs.Inner.Parsed.{ahead}
use Rattle.plm_syntax.specs.Inner.Parts.{read_parameters}
use Rattle.plm_syntax.proofs.Along.{taken, arrives_behind}
use Rattle.plm_syntax.proofs.NextBlock.{no_parameters_there}
use Rattle.plm_syntax.proofs.statement.parameters.Goals as goal

pub returns-clause-leads : goal.returns-clause-leads
returns-clause-leads c = λ n s v. arrives_behind (λ ns. read_parameters n ns.items) s v c.names.result (taken (Want ParametersG ∷ s) (read_parameters n [] v) c.in-Some.ensures) (c.names.ensures.parameters n s v)

pub returns-in_default-clause-leads : goal.returns-in_default-clause-leads
returns-in_default-clause-leads c = λ n s v. no_parameters_there c.args.cursor s (read_parameters n [] v) c.in_default.ensures ∙ ap (λ (ns : List NameTree). run 64 s (read_parameters n ns v) (ahead c.args.cursor)) (sym c.new.ensures.items)
