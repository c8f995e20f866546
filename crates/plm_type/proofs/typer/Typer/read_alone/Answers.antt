use Rattle.std.proofs.Common.{Option, Some, sym, ap, ◌∙◌}
use Rattle.std.proofs.lemmas.List.{append-nil}
use Rattle.plm_decl.specs.declared.names.Variable.{Variable}
use Rattle.plm_decl.specs.ResolvedView as resolved
use Rattle.plm_type.specs.declared.numbers.Numbers.TheVariants.{Other}
use Rattle.plm_type.specs.Expressions as typed
use Rattle.plm_type.specs.Shapes.{read_of}
use Rattle.plm_type.specs.Inner.Typer.{variables, after, parts_by}
use Rattle.plm_type.proofs.Alone.{read_alone}
use Rattle.plm_type.proofs.typer.Typer.read_alone.Goals as goal

pub returns-in-Some-alone_type : goal.returns-in-Some-alone_type
returns-in-Some-alone_type c =
    let t = c.in-Some-alone_type.scalar in
    let self = c.args.self.now in
    let r = c.args.reference.now in
    let tree = c.read_of.ensures ∙ ap (read_of t) c.refer_alone-place.ensures in
    λ noted.
    (λ j. record { tree = tree j; scalar = Some t; numbers = Other; faults = sym (append-nil noted) j })
    ∙ ap (after noted) (read_alone self r.place c.in-Some.variable r t (sym c.alone_type.ensures ∙ c.in-Some-alone_type.is))
    ∙ ap (λ (v : Option Variable). after noted (typed.read (variables self) self.module r.place v (resolved.selector_of r.selector) (parts_by self (resolved.reference_of r)))) (sym c.in-Some.is)
