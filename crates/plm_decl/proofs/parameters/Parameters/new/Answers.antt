use Rattle.std.proofs.Common.{map, ap, ◌∙◌}
use Rattle.plm_syntax.specs.View.{name_of}
use Rattle.plm_decl.specs.Scope.{Entries}
use Rattle.plm_decl.specs.Inner.Parameters.{listed_after}
use Rattle.plm_decl.proofs.ParameterNames.{all_told}
use Rattle.plm_decl.proofs.parameters.Parameters.new.Goals as goal

pub invariant_of-result : goal.invariant_of-result
invariant_of-result c =
    let ns = c.args.names.now in
    record { told = all_told c.list.new.by_name ns (c.in-Ok.ensures ∙ ap (λ (e : Entries). listed_after e (map name_of ns)) c.new-by_name.ensures) }
