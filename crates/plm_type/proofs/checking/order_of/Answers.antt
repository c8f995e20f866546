use Rattle.std.proofs.Common.{◌≡◌, ℕ, ◌<◌, Result, Option, IfOk, IfErr, Some, List, length, map, slice_get, refl, sym, subst, ap, ◌∙◌}
use Rattle.std.specs.Global.{Vec}
use Rattle.std.proofs.lemmas.Option.{slice_get_read}
use Rattle.std.proofs.lemmas.List.{length-map}
use Rattle.word86.specs.declared.number.Number.TheVariants.{E404}
use Rattle.plm_decl.specs.declared.names.Procedure.{Procedure}
use Rattle.plm_type.specs.Reach.{Graph, IsOnCycle}
use Rattle.plm_type.specs.Inner.Reach.{rows, AreRanks}
use Rattle.plm_type.specs.Inner.Order.{IsOrdered}
use Rattle.plm_type.specs.Checking as spec
use Rattle.plm_type.specs.View as view
use Rattle.plm_type.proofs.Ordering.{order_from_ranks}
use Rattle.plm_type.proofs.checking.order_of.Goals as goal

pub returns-in-Ok-clause-order : goal.returns-in-Ok-clause-order
returns-in-Ok-clause-order c =
    let made = ap rows c.deref.ensures.value ∙ c.in_ok-graph.ensures in
    let g = rows c.deref.result.now in
    let ranks = c.in-Ok.ranks.items in
    let order = c.in_ok-by_rank-in-Ok.field-0.items in
    let ordered = subst (λ (l : List ℕ). IsOrdered l order) c.deref-in-Ok.ensures.value c.in_ok-by_rank-in-Ok.ensures in
    let above = subst (λ (r : Result (Vec ℕ) ℕ). IfOk r (λ l. AreRanks l.items g)) c.in-Ok.is c.in_ok-ranks.ensures.ranks in
    let long = subst (λ (r : Result (Vec ℕ) ℕ). IfOk r (λ l. length l.items ≡ length c.deref.result.now)) c.in-Ok.is c.in_ok-ranks.ensures.length in
    order_from_ranks ranks order _ (long ∙ sym (length-map c.deref.result.now (λ v. v.items)) ∙ ap length made) (subst (λ (x : Graph). AreRanks ranks x) made above) ordered

pub returns-in-Ok-clause-none : goal.returns-in-Ok-clause-none
returns-in-Ok-clause-none c =
    let made = ap rows c.deref.ensures.value ∙ c.in_ok-graph.ensures in
    subst (λ (g : Graph). (q : ℕ) → ¬ IsOnCycle g q) made
    (subst (λ (r : Result (Vec ℕ) ℕ). IfOk r (λ l. (q : ℕ) → ¬ IsOnCycle (rows c.deref.result.now) q)) c.in-Ok.is c.in_ok-ranks.ensures.none)

pub returns-clause-cycle : goal.returns-clause-cycle
returns-clause-cycle c =
    let made = ap rows c.deref.ensures.value ∙ c.in_ok-graph.ensures in
    let g = rows c.deref.result.now in
    let n = c.in-Err.number in
    let x = c.index-procedure.result.now in
    let ps = c.args.names.now.procedures.items in
    let long = sym (length-map c.deref.result.now (λ v. v.items)) ∙ ap length made ∙ length-map (map view.procedure_of c.args.procedures.now) _ ∙ length-map c.args.procedures.now view.procedure_of ∙ c.requires in
    let within = subst (λ m. n < m) long (subst (λ (r : Result (Vec ℕ) ℕ). IfErr r (λ p. p < length c.deref.result.now)) c.in-Err.is c.in_ok-ranks.ensures.within) in
    let at : slice_get ps n ≡ Some x = slice_get_read ps (length ps) n x refl within c.index-procedure.ensures in
    record {
      procedure = n;
      recursive = subst (λ (h : Graph). IsOnCycle h n) made (subst (λ (r : Result (Vec ℕ) ℕ). IfErr r (λ p. IsOnCycle g p)) c.in-Err.is c.in_ok-ranks.ensures.cycle);
      first = subst (λ (h : Graph). (q : ℕ) → q < n → ¬ IsOnCycle h q) made
          (subst (λ (r : Result (Vec ℕ) ℕ). IfErr r (λ p. (q : ℕ) → q < p → ¬ IsOnCycle g q)) c.in-Err.is c.in_ok-ranks.ensures.first);
      stands = subst (λ (o : Option Procedure). spec.StandsAt o (record { «module» = x.module; place = x.place; number = E404 })) (sym at) refl;
    }
