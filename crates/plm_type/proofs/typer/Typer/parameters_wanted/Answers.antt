use Rattle.std.proofs.Common.{◌≡◌, ℕ, List, Option, option_map, IfOk, take, subst, sym, ap, ◌∙◌}
use Rattle.plm_decl.specs.declared.layout.ScalarType.{ScalarType}
use Rattle.plm_decl.specs.Names.{procedure_of}
use Rattle.plm_type.specs.Typing.{parameter_types, parameters_wanted}
use Rattle.plm_type.specs.Inner.Typer.{variables}
use Rattle.plm_type.proofs.Lists.{none_taken, types_taken}
use Rattle.plm_type.proofs.typer.Typer.parameters_wanted.Goals as goal

pub returns-in-Some : goal.returns-in-Some
returns-in-Some c =
    let vs = variables c.args.self.now in
    let n = c.args.count in
    let is = sym c.in-Some.is in
    let path = ap (parameter_types vs) c.first.ensures
    ∙ ap (λ (xs : List ℕ). parameter_types vs (take n xs)) c.deref.ensures.value
    ∙ types_taken vs n _
    ∙ (λ j. take n (parameters_wanted vs (option_map (λ p. procedure_of p.now) (is j)))) in
    subst (λ (ts : List (Option ScalarType)). IfOk c.parameter_types.result (λ r. r.items ≡ ts)) path c.parameter_types.ensures

pub returns-in-None : goal.returns-in-None
returns-in-None c =
    let vs = variables c.args.self.now in
    let n = c.args.count in
    let is = sym c.in-None.is in
    c.new.ensures.items ∙ sym (none_taken n) ∙ (λ j. take n (parameters_wanted vs (option_map (λ p. procedure_of p.now) (is j))))
