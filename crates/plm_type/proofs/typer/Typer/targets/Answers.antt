use Rattle.std.proofs.Common.{◌+◌, ◌∷◌, [], ◌++◌, List, Option, drop, map, append_assoc, sym, ap, ◌∙◌}
use Rattle.std.proofs.lemmas.List.{append-nil, drop_all}
use Rattle.plm_decl.specs.declared.layout.ScalarType.{ScalarType}
use Rattle.plm_decl.specs.declared.resolved.Reference as resolved_reference
use Rattle.plm_decl.specs.Resolved.{ReferencesR}
use Rattle.plm_decl.specs.ResolvedView as resolved
use Rattle.plm_type.specs.declared.program.Target.{Target}
use Rattle.plm_type.specs.View as view
use Rattle.plm_type.specs.Inner.Typer.{targets_by, target_by}
use Rattle.plm_type.proofs.Lists.{references_at, targets_pushed, targets_before}
use Rattle.plm_type.proofs.typer.Typer.targets.Goals as goal

pub loop-reference-preserved : goal.loop-reference-preserved
loop-reference-preserved c =
    let here = c.loop-reference in
    let self = c.args.self.now in
    let all = here.all in
    let xs = c.args.references.now in
    let x = c.reference-item.result in
    let did = c.in_ok-typed.ensures in
    let left = targets_by self (resolved.references_of (drop (here.reference-index + 1) xs)) in
    let at = sym (references_at xs here.reference-index x c.loop-reference-test.true c.reference-item.is) in
    let trees = ap (λ (l : List Target). map view.target_of l ++ left.trees) c.in_ok-push.ensures.trees
    ∙ targets_pushed all.trees.items c.in_ok-typed.typed.tree left.trees ∙ (λ j. map view.target_of all.trees.items ++ (did j).tree ∷ left.trees) in
    let types = ap (λ (l : List (Option ScalarType)). l ++ left.types) c.in_ok-push.ensures.types
    ∙ append_assoc all.types.items (c.in_ok-typed.typed.scalar ∷ []) left.types ∙ (λ j. all.types.items ++ (did j).scalar ∷ left.types) in
    let faults = (λ j. (did j).faults ++ left.faults) ∙ append_assoc here.faults.items (target_by self (resolved.reference_of x)).faults left.faults in
    (λ j. record { trees = trees j; types = types j; faults = faults j })
    ∙ ap (λ (l : ReferencesR). targets_before all here.faults.items (targets_by self l)) at
    ∙ here.invariant

pub returns : goal.returns
returns c =
    let here = c.loop-reference in
    let self = c.args.self.now in
    let none = sym (drop_all here.reference-index c.args.references.now c.loop-reference-test.false) in
    (λ j. record { trees = sym (append-nil (map view.target_of here.all.trees.items)) j; types = sym (append-nil here.all.types.items) j; faults = sym (append-nil here.faults.items) j })
    ∙ ap (λ (l : List resolved_reference.Reference). targets_before here.all here.faults.items (targets_by self (resolved.references_of l))) none
    ∙ here.invariant
