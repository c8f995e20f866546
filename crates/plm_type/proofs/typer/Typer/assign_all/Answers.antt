use Rattle.std.proofs.Common.{◌++◌, List, Option, append_assoc, ap, ◌∙◌}
use Rattle.word86.specs.declared.number.Number.TheVariants.{E401}
use Rattle.plm_decl.specs.declared.layout.ScalarType.{ScalarType}
use Rattle.plm_decl.specs.declared.found.Found.{Found}
use Rattle.plm_decl.specs.ResolvedView as resolved
use Rattle.plm_type.specs.Faults.{fault_unless}
use Rattle.plm_type.specs.Typer.{Typed, TypedTargets, Noted}
use Rattle.plm_type.specs.Expressions.{wanted}
use Rattle.plm_type.specs.Rest as rest
use Rattle.plm_type.specs.Inner.Typer.{targets_said, noted, after, typed_by, targets_by}
use Rattle.plm_type.specs.Statements as spec
use Rattle.plm_type.specs.View.{statement_of}
use Rattle.plm_type.proofs.typer.Typer.assign_all.Goals as goal

pub returns : goal.returns
returns c =
    let self = c.args.self.now in
    let m = self.module in
    let old = c.args.faults.now.items in
    let stored = targets_by self (resolved.references_of c.args.references.now) in
    let e = typed_by self (resolved.expression_of c.args.e.now) in
    let first = spec.first_target (resolved.references_of c.args.references.now) (resolved.expression_of c.args.e.now) in
    let targets = c.in_ok-targets.targets in
    let types = targets.types.items in
    let noted_targets = c.targets.new.faults.items in
    let own : List (Option ScalarType) → Option ScalarType → List Found = λ ts t. fault_unless m (spec.all_take ts t) E401 first in
    let whole : TypedTargets → Typed → Noted rest.Statement = λ ts v. noted (spec.assignment ts.trees v.tree) (v.faults ++ own ts.types v.scalar) in
    let among = c.wanted_among.ensures ∙ ap spec.wanted_among c.deref.ensures.value in
    let did = c.in_ok-value.ensures ∙ ap (λ (t : Option ScalarType). after noted_targets (wanted m t e)) among in
    let taken = c.all_take-are_taken.ensures ∙ ap (λ (l : List (Option ScalarType)). spec.all_take l c.in_ok-value.value.scalar) c.deref-2.ensures.value in
    let assigned = c.in_ok-assigned.ensures in
    let faults = assigned.faults ∙ (λ j. c.value_for.new.faults.items ++ fault_unless m (taken j) E401 (c.first_target-place.ensures j)) in
    let turned = wanted m (spec.wanted_among stored.types) e in
    (λ j. noted ((ap statement_of assigned.value ∙ c.assignment-statement.ensures) j) (faults j))
    ∙ ap (whole (targets_said targets noted_targets)) did
    ∙ ap (λ (ts : TypedTargets). whole ts (after ts.faults (wanted m (spec.wanted_among ts.types) e))) c.in_ok-targets.ensures
    ∙ ap (noted (spec.assignment stored.trees turned.tree)) (append_assoc (old ++ stored.faults) turned.faults (own stored.types turned.scalar) ∙ append_assoc old stored.faults (turned.faults ++ own stored.types turned.scalar))
