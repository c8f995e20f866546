use Rattle.std.proofs.Common.{◌+◌, ◌∷◌, map, drop, drop-cons, add-one, sym, ap, ◌∙◌}
use Rattle.plm_syntax.specs.View as tree
use Rattle.plm_decl.specs.Inner.Scope.{frames_of}
use Rattle.plm_decl.specs.Inner.Resolver.{known_of}
use Rattle.plm_decl.specs.Resolved.{and_reference}
use Rattle.plm_decl.specs.ResolvedView as view
use Rattle.plm_decl.specs.Statements.{targets_from}
use Rattle.plm_decl.proofs.Made.{made_so}
use Rattle.plm_decl.proofs.ResolvedRows.{reference_pushed}
use Rattle.plm_decl.proofs.resolver.Resolver.references.Goals as goal

pub loop-reference-preserved : goal.loop-reference-preserved
loop-reference-preserved c =
    let here = c.loop-reference in
    let frames = frames_of c.args.scope.now in
    let xs = c.args.references.now in
    let i = here.reference-index in
    let x = c.reference-item.result in
    let rest = map tree.reference_of (drop (i + 1) xs) in
    let one = sym (add-one i) in
    let is = sym c.reference-item.is in
    let at = ap (map tree.reference_of) (drop-cons xs i x c.loop-reference-test.true) ∙ (λ j. tree.reference_of (is j) ∷ map tree.reference_of (drop (one j) xs)) in
    made_so _ _ c.reference.result c.in_ok-pushed.ensures c.reference.ensures
    (λ r kept did.
    let pushed = ap view.references_of kept ∙ reference_pushed here.resolved.items r in
    (λ j. targets_from frames (pushed j) rest (known_of c.reference.new.self))
    ∙ (λ j. targets_from frames (and_reference (view.references_of here.resolved.items) (did j).0) rest (did j).1)
    ∙ ap (λ l. targets_from frames (view.references_of here.resolved.items) l (known_of here.self)) (sym at)
    ∙ here.invariant)
