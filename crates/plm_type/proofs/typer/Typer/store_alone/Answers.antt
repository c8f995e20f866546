use Rattle.std.proofs.Common.{Option, Some, sym, ap, ◌∙◌}
use Rattle.std.proofs.lemmas.List.{append-nil}
use Rattle.plm_decl.specs.declared.names.Variable.{Variable}
use Rattle.plm_decl.specs.ResolvedView as resolved
use Rattle.plm_type.specs.Expressions as typed
use Rattle.plm_type.specs.Shapes.{store_to}
use Rattle.plm_type.specs.Inner.Typer.{variables, target_after, parts_by}
use Rattle.plm_type.proofs.Alone.{stored_alone}
use Rattle.plm_type.proofs.typer.Typer.store_alone.Goals as goal

pub returns-in-Some-stored_type : goal.returns-in-Some-stored_type
returns-in-Some-stored_type c =
    let t = c.in-Some-stored_type.scalar in
    let self = c.args.self.now in
    let r = c.args.reference.now in
    let tree = c.store_to.ensures ∙ ap (store_to t) c.refer_alone-place.ensures in
    λ noted.
    (λ j. record { tree = tree j; scalar = Some t; faults = sym (append-nil noted) j })
    ∙ ap (target_after noted) (stored_alone self r.place c.in-Some.variable r t (sym c.stored_type.ensures ∙ c.in-Some-stored_type.is))
    ∙ ap (λ (v : Option Variable). target_after noted (typed.stored (variables self) self.module r.place v (resolved.selector_of r.selector) (parts_by self (resolved.reference_of r)))) (sym c.in-Some.is)
