use Rattle.std.proofs.Common.{[], ◌++◌, List, Option, append_assoc, sym, ap, ◌∙◌}
use Rattle.std.proofs.lemmas.List.{append-nil}
use Rattle.plm_decl.specs.declared.found.Found.{Found}
use Rattle.plm_decl.specs.ResolvedView as resolved
use Rattle.plm_type.specs.Rest as rest
use Rattle.plm_decl.specs.declared.layout.ScalarType.{ScalarType}
use Rattle.plm_type.specs.Inner.Typer.{noted, noted_after, bound_by, index_by, step_by}
use Rattle.plm_type.specs.Statements as spec
use Rattle.plm_type.specs.Typing.{variable_type}
use Rattle.plm_type.specs.Typer.{Noted}
use Rattle.plm_type.specs.View.{expression_of, scalar_of}
use Rattle.plm_type.proofs.Said.{noted_at, step_at}
use Rattle.plm_type.proofs.typer.Typer.range.Goals as goal

pub returns : goal.returns
returns c =
    let self = c.args.self.now in
    let old = c.args.faults.now.items in
    let bounds = c.args.bounds.now in
    let index = c.in_ok-index.ensures in
    let first = c.in_ok-first.ensures in
    let ends = c.in_ok-ends.ensures in
    let all = c.in_ok-from.ensures in
    let bound = noted_at expression_of c.bound_in-2.new.faults.items ends.1 c.bound_in-2.ensures in
    let step = step_at c.step.new.faults.items all.1 c.step.ensures in
    let scalar = c.variable_type-scalar.result in
    let is_scalar = c.variable_type-scalar.ensures ∙ ap variable_type c.variable_meant.ensures in
    let i = index_by self c.args.place c.args.name bounds.binding in
    let a = bound_by self scalar c.args.place (resolved.expression_of bounds.from) in
    let b = bound_by self scalar c.args.place (resolved.expression_of bounds.to) in
    let s = step_by self scalar c.args.place (resolved.step_of bounds.step) in
    let faults = (λ j. (step j).faults) ∙ (λ j. (bound j).faults ++ s.faults) ∙ (λ j. ((first j).faults ++ b.faults) ++ s.faults) ∙ (λ j. (((index j).faults ++ a.faults) ++ b.faults) ++ s.faults)
    ∙ append_assoc ((old ++ i.faults) ++ a.faults) b.faults s.faults ∙ append_assoc (old ++ i.faults) a.faults (b.faults ++ s.faults) ∙ append_assoc old i.faults (a.faults ++ (b.faults ++ s.faults))
    ∙ ap (λ (l : List Found). old ++ (i.faults ++ (a.faults ++ (b.faults ++ l)))) (sym (append-nil s.faults)) in
    let at : (from bound : rest.Expression) → Noted rest.Statement = λ from to.
    noted (rest.Iterate from (rest.Count c.in_ok-from.step.counting (scalar_of c.in_ok-index.index) to (expression_of c.in_ok-from.step.tree) rest.End)) c.step.new.faults.items in
    (λ j. at (expression_of (all.0 j).0) (expression_of (all.0 j).1))
    ∙ (λ j. at (expression_of (ends.0 j)) (expression_of c.in_ok-ends.ends.1))
    ∙ (λ j. noted (rest.Iterate (first j).tree (rest.Count (step j).counting (index j).tree (bound j).tree (step j).tree rest.End)) (faults j))
    ∙ ap (λ (t : Option ScalarType). noted_after old (spec.iterate i (bound_by self t c.args.place (resolved.expression_of bounds.from)) (bound_by self t c.args.place (resolved.expression_of bounds.to)) (step_by self t c.args.place (resolved.step_of bounds.step)) (noted rest.End []))) is_scalar
