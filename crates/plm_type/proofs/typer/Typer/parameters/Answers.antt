use Rattle.std.proofs.Common.{◌≡◌, ℕ, ◌+◌, ◌∷◌, List, get_or, drop, drop-cons, add-one, slice_get, sym, ap, ◌∙◌}
use Rattle.std.proofs.lemmas.List.{drop_all}
use Rattle.plm_type.specs.Inner.Typer.{variables, noted}
use Rattle.plm_type.specs.Statements.{index_for, of_parameter, typed_parameters}
use Rattle.plm_type.specs.View as view
use Rattle.plm_type.proofs.Lists.{mapped_before, mapped_next, mapped_all}
use Rattle.plm_type.proofs.typer.Typer.parameters.Goals as goal

pub loop-parameter-preserved : goal.loop-parameter-preserved
loop-parameter-preserved c =
    let here = c.loop-parameter in
    let vs = variables c.args.self.now in
    let m = c.args.self.now.module in
    let external = c.args.external in
    let all = typed_parameters vs external m in
    let xs = c.args.parameters.now in
    let i = here.parameter-index in
    let x = get_or xs i 0 in
    let left = drop (i + 1) xs in
    let at : drop i xs ≡ x ∷ left = drop-cons xs i 0 c.loop-parameter-test.true ∙ (λ j. x ∷ drop (sym (add-one i) j) xs) in
    let first = noted (index_for (slice_get vs x)) (of_parameter external m (slice_get vs x)) in
    let tree = c.index_for.ensures ∙ ap index_for c.variable.ensures in
    mapped_next view.scalar_of here.scalars.items _ c.index_for.result here.faults.items _ first (all left) c.in_ok-push.ensures.items (λ j. noted (tree j) (c.in_ok-note_parameter.ensures j))
    ∙ ap (λ (l : List ℕ). mapped_before view.scalar_of here.scalars.items here.faults.items (all l)) (sym at)
    ∙ here.invariant

pub returns : goal.returns
returns c =
    let here = c.loop-parameter in
    let all = typed_parameters (variables c.args.self.now) c.args.external c.args.self.now.module in
    let none = sym (drop_all here.parameter-index c.args.parameters.now c.loop-parameter-test.false) in
    mapped_all view.scalar_of here.scalars.items here.faults.items
    ∙ ap (λ (l : List ℕ). mapped_before view.scalar_of here.scalars.items here.faults.items (all l)) none
    ∙ here.invariant
