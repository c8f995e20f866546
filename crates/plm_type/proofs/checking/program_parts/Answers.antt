use Rattle.std.proofs.Common.{◌≡◌, ℕ, ◌++◌, [], List, Option, Result, IfNone, IfSome, IfOk, IfErr, length, map, inl, inr, refl, sym, subst, ap, ◌∙◌}
use Rattle.std.proofs.lemmas.List.{length-map}
use Rattle.word86.specs.declared.fault.Fault.{Fault}
use Rattle.plm_decl.specs.declared.found.Found.{Found}
use Rattle.plm_decl.specs.Names.{procedure_of}
use Rattle.plm_decl.specs.Found.{IsLeast}
use Rattle.plm_type.specs.Rest.{Procedure}
use Rattle.std.specs.Global.{Vec}
use Rattle.plm_type.specs.Order.{IsOrder}
use Rattle.plm_type.specs.Calls.{graph_of, IsRecursive}
use Rattle.plm_type.specs.Checking as spec
use Rattle.plm_type.specs.Interrupts.{AreInterruptFaults}
use Rattle.plm_type.specs.Programs.{faults}
use Rattle.plm_type.proofs.Faultless.{none_of_both}
use Rattle.plm_type.proofs.Typing.{as_many_procedures}
use Rattle.plm_type.specs.View as view
use Rattle.plm_type.proofs.checking.program_parts.Goals as goal

pub order_of-requires : goal.order_of-requires
order_of-requires c = as_many_procedures c.args.names.now c.deref-2.result.now _ c.deref-2.ensures.value c.in_ok-typed.ensures.procedures

pub returns-in-Some-clause-refused : goal.returns-in-Some-clause-refused
returns-in-Some-clause-refused c =
    let names = c.args.names.now in
    let extra = c.in_ok-typed.ensures.faults in
    let all : c.deref.result.now ≡ faults names ++ extra.0 = c.deref.ensures.value ∙ extra.2 in
    subst (λ (f : Fault). spec.IsRefusal f names) (sym c.fault.ensures)
    (extra.0, extra.1, (c.in-Some.found, inl (subst (λ (fs : List Found). IsLeast fs c.in-Some.found) all (subst (λ (o : Option Found). IfSome o (λ f. IsLeast c.deref.result.now f)) c.in-Some.is c.least.ensures.found)), refl))

pub returns-in-Err-clause-refused : goal.returns-in-Err-clause-refused
returns-in-Err-clause-refused c =
    let names = c.args.names.now in
    let extra = c.in_ok-typed.ensures.faults in
    let all : c.deref.result.now ≡ faults names ++ extra.0 = c.deref.ensures.value ∙ extra.2 in
    let made = ap (map view.procedure_of) c.deref-2.ensures.value ∙ c.in_ok-typed.ensures.procedures in
    let none = sym all ∙ subst (λ (o : Option Found). IfNone o (c.deref.result.now ≡ [])) c.in_default.is c.least.ensures.none in
    let cycle = subst (λ (r : Result (Vec ℕ) Found). IfErr r (λ f. spec.IsRecursion (map view.procedure_of c.deref-2.result.now) names f)) c.in-Err.is c.in_ok-order.ensures.cycle in
    subst (λ (f : Fault). spec.IsRefusal f names) (sym c.fault-in-Err.ensures)
    (extra.0, extra.1, (c.in-Err.found, inr (none, subst (λ (qs : List Procedure). spec.IsRecursion qs names c.in-Err.found) made cycle), refl))

pub returns-in-Ok-clause-main : goal.returns-in-Ok-clause-main
returns-in-Ok-clause-main c = c.in_ok-typed.ensures.main

pub returns-in-Ok-clause-procedures : goal.returns-in-Ok-clause-procedures
returns-in-Ok-clause-procedures c = c.in_ok-typed.ensures.procedures

pub returns-in-Ok-clause-handlers : goal.returns-in-Ok-clause-handlers
returns-in-Ok-clause-handlers c = c.in_ok-handler_numbers.ensures

pub returns-in-Ok-clause-faults : goal.returns-in-Ok-clause-faults
returns-in-Ok-clause-faults c =
    let names = c.args.names.now in
    let extra = c.in_ok-typed.ensures.faults in
    let all : c.deref.result.now ≡ faults names ++ extra.0 = c.deref.ensures.value ∙ extra.2 in
    (none_of_both (faults names) extra.0 (sym all ∙ subst (λ (o : Option Found). IfNone o (c.deref.result.now ≡ [])) c.in_default.is c.least.ensures.none)).0

pub returns-in-Ok-clause-interrupts : goal.returns-in-Ok-clause-interrupts
returns-in-Ok-clause-interrupts c =
    let names = c.args.names.now in
    let extra = c.in_ok-typed.ensures.faults in
    let all : c.deref.result.now ≡ faults names ++ extra.0 = c.deref.ensures.value ∙ extra.2 in
    let parts = none_of_both (faults names) extra.0 (sym all ∙ subst (λ (o : Option Found). IfNone o (c.deref.result.now ≡ [])) c.in_default.is c.least.ensures.none) in
    subst (AreInterruptFaults names) parts.1 extra.1

pub returns-in-Ok-clause-recursion : goal.returns-in-Ok-clause-recursion
returns-in-Ok-clause-recursion c =
    let made = ap (map view.procedure_of) c.deref-2.ensures.value ∙ c.in_ok-typed.ensures.procedures in
    subst (λ (qs : List Procedure). (q : ℕ) → ¬ IsRecursive qs q) made
    (subst (λ (r : Result (Vec ℕ) Found). IfOk r (λ o. (q : ℕ) → ¬ IsRecursive (map view.procedure_of c.deref-2.result.now) q)) c.in-Ok.is c.in_ok-order.ensures.none)

pub returns-in-Ok-clause-order : goal.returns-in-Ok-clause-order
returns-in-Ok-clause-order c =
    let made = ap (map view.procedure_of) c.deref-2.ensures.value ∙ c.in_ok-typed.ensures.procedures in
    subst (λ (qs : List Procedure). IsOrder c.in-Ok.order.items (graph_of qs)) made
    (subst (λ (r : Result (Vec ℕ) Found). IfOk r (λ o. IsOrder o.items (graph_of (map view.procedure_of c.deref-2.result.now)))) c.in-Ok.is c.in_ok-order.ensures.order)
