use Rattle.std.proofs.Common.{◌∷◌, [], ◌++◌, List, append_assoc, sym, ap, ◌∙◌}
use Rattle.std.proofs.lemmas.List.{append-nil}
use Rattle.word86.specs.declared.number.Number.TheVariants.{E401}
use Rattle.plm_decl.specs.declared.found.Found.{Found}
use Rattle.plm_decl.specs.ResolvedView as resolved
use Rattle.plm_type.specs.Faults.{fault_unless}
use Rattle.plm_type.specs.Rest as rest
use Rattle.plm_type.specs.Typer.{Typed, TypedTarget, Noted}
use Rattle.plm_type.specs.Expressions.{wanted}
use Rattle.plm_type.specs.Statements.{all_take, wanted_among}
use Rattle.plm_type.specs.Inner.Typer.{target_said, noted, after, target_after, typed_by, target_by}
use Rattle.plm_type.specs.View as view
use Rattle.plm_type.proofs.Said.{typed_at, wanted_alone}
use Rattle.plm_type.proofs.typer.Typer.assign_one.Goals as goal

pub returns : goal.returns
returns c =
    let self = c.args.self.now in
    let m = self.module in
    let old = c.args.faults.now.items in
    let p = c.args.reference.now.place in
    let x = target_by self (resolved.reference_of c.args.reference.now) in
    let e = typed_by self (resolved.expression_of c.args.e.now) in
    let target = c.in_ok-stored.stored in
    let noted_target = c.target.new.faults.items in
    let turned = wanted m (wanted_among (x.scalar ∷ [])) e in
    let whole : TypedTarget → Typed → Noted rest.Statement = λ y v.
    noted (rest.Assign (rest.Only y.tree) v.tree) (v.faults ++ fault_unless m (all_take (y.scalar ∷ []) v.scalar) E401 p) in
    let own = fault_unless m (all_take (x.scalar ∷ []) turned.scalar) E401 p in
    let typed = c.value_for.new.faults.items in
    let pair = c.in_ok-target.ensures in
    let value = typed_at typed pair.1 c.value_for.ensures in
    let did = c.in_ok-assigned.ensures in
    let faults = did.faults ∙ ap (λ b. typed ++ fault_unless m b E401 p) c.all_take-is_taken.ensures in
    (λ j. noted (view.statement_of (did.value j)) (faults j))
    ∙ (λ j. noted (rest.Assign (view.targets_of (view.target_of (pair.0 j).tree) (c.new.ensures.items j)) (view.expression_of c.in_ok-target.value.tree)) (typed ++ fault_unless m (all_take (target.scalar ∷ []) c.in_ok-target.value.scalar) E401 p))
    ∙ ap (whole (target_said target noted_target)) value
    ∙ ap (λ (y : TypedTarget). whole y (after y.faults (wanted m y.scalar e))) c.in_ok-stored.ensures
    ∙ ap (λ (v : Typed). whole (target_after old x) (after (old ++ x.faults) v)) (wanted_alone m x.scalar e)
    ∙ ap (noted (rest.Assign (rest.Only x.tree) turned.tree)) (append_assoc (old ++ x.faults) turned.faults own ∙ append_assoc old x.faults (turned.faults ++ own)
    ∙ ap (λ (l : List Found). old ++ (l ++ (turned.faults ++ own))) (sym (append-nil x.faults)))
