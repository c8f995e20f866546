use Rattle.std.proofs.Common.{ℕ, List, [], drop, drop-cons, sym, ap, ◌∙◌}
use Rattle.std.proofs.lemmas.List.{nil_from_length}
use Rattle.plm_type.specs.Inner.Typer.{variables}
use Rattle.plm_type.specs.Typing.{take_all, parameter_types}
use Rattle.plm_type.proofs.typer.Typer.take_all.Goals as goal

pub returns-in_default : goal.returns-in_default
returns-in_default c =
    let vs = variables c.args.self.now in
    let xs = c.args.parameters.now in
    let i = c.loop-parameter.parameter-index in
    let none = nil_from_length c.loop-parameter.others.now c.in_default.ensures.cases in
    ap (λ (l : List ℕ). take_all (parameter_types vs l) []) (sym (drop-cons xs i 0 c.loop-parameter-test.true))
    ∙ ap (take_all (parameter_types vs (drop i xs))) (sym none)
    ∙ c.loop-parameter.invariant
