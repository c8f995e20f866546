use Rattle.std.proofs.Common.{◌≡◌, None, Some, inl, refl, sym, subst, ap, ◌∙◌}
use Rattle.word86.specs.declared.fault.Fault.{Fault}
use Rattle.plm_decl.specs.Least.{least}
use Rattle.plm_decl.specs.Inner.Resolver.{known_of}
use Rattle.plm_decl.specs.Inner.Modules.{IsRefused}
use Rattle.plm_decl.proofs.Least.{none_is, least_found}
use Rattle.plm_decl.proofs.resolver.Resolver.answer.Goals as goal

pub returns-in-Some-clause-refused : goal.returns-in-Some-clause-refused
returns-in-Some-clause-refused c =
    let k = known_of c.args.self in
    let found = c.in-Some.found in
    let first : least None k.faults ≡ Some found = ap (least None) (sym c.deref.ensures.value) ∙ sym c.least.ensures.value ∙ c.in-Some.is in
    subst (λ (f : Fault). IsRefused f k) (sym c.fault.ensures) (found, inl (least_found k.faults found first), refl)

pub joined-requires : goal.joined-requires
joined-requires c =
    let k = known_of c.args.self in
    let none : least None k.faults ≡ None = ap (least None) (sym c.deref.ensures.value) ∙ sym c.least.ensures.value ∙ c.in-None.is in
    let empty = none_is k.faults none in
    record { no_fault = empty; within = c.requires.within empty; fit = c.requires.fit }
