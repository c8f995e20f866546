use Rattle.std.proofs.Common.{ℕ, List, [], drop, drop-cons, sym, ap, ◌∙◌}
use Rattle.std.proofs.lemmas.List.{nil_from_length}
use Rattle.plm_decl.specs.Inner.Resolver.{known_of}
use Rattle.plm_decl.specs.Joins.{same_parameters}
use Rattle.plm_decl.proofs.resolver.Resolver.same_parameters.Goals as goal

pub returns-in_default : goal.returns-in_default
returns-in_default c =
    let k = known_of c.args.self.now in
    let xs = c.args.a.now in
    let i = c.loop-parameter.parameter-index in
    let none = nil_from_length c.loop-parameter.others.now c.in_default.ensures.cases in
    ap (λ (l : List ℕ). same_parameters k l []) (sym (drop-cons xs i 0 c.loop-parameter-test.true))
    ∙ ap (same_parameters k (drop i xs)) (sym none)
    ∙ c.loop-parameter.invariant
