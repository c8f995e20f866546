use Rattle.std.proofs.Common.{rules, ◌≡◌, ℕ, zero, suc, ◌+◌, ◌<◌, List, [], ◌∷◌, Bool, true, false, map, slice_get, slice_index_or, Option, Some, IsTrue, arith, refl, sym, ap, subst, ◌∙◌, ◌↔◌}
use Rattle.std.proofs.lemmas.List.{length-map}
use Rattle.plm_decl.specs.declared.names.Procedure.{Procedure}
use Rattle.plm_decl.specs.Names.{ProcedureR, procedure_of}
use Rattle.plm_type.specs.Inner.Reach.{rows, IsMarked}
use Rattle.plm_type.specs.Interrupts as spec
use Rattle.plm_type.specs.Reach.{Graph, Leads}
use Rattle.plm_type.proofs.Faultless.{there}
use Rattle.plm_type.proofs.MarkedLists.{marked_more, marked_all, at_map}
use Rattle.plm_type.proofs.interrupts.reaching.Goals as goal

marks_are : (xs : List Procedure) (q : ℕ) → slice_index_or (map (λ p. spec.lets_in (spec.body_effects (procedure_of p))) xs) q false ≡ spec.procedure_lets_in (slice_get (map procedure_of xs) q)
marks_are [] zero = refl
marks_are [] (suc q) = refl
marks_are (x ∷ xs) zero = refl
marks_are (x ∷ xs) (suc q) = marks_are xs q

-- it serves an interrupt, and leads to a procedure of which the test is true
abbrev LeadsTo : ℕ → Option ProcedureR → Graph → (ℕ → Bool) → Type 0
LeadsTo i p g f = (spec.serves_interrupt p ≡ true) × ((q : ℕ) × Leads g (i ∷ []) q × (f q ≡ true))

pub loop-number-preserved : goal.loop-number-preserved
loop-number-preserved c =
    let ps = c.args.procedures.now in
    let was = c.loop-number.invariant in
    let i = c.loop-number.number in
    let x = c.index-procedures-number.result in
    let b = c.in_ok-lets_in_from.field-0 in
    let here : Some (procedure_of x) ≡ slice_get (map procedure_of ps) i = at_map procedure_of ps i x c.loop-number-test.true c.index-procedures-number.is in
    let graph : rows c.deref.result.now ≡ spec.text_graph (map procedure_of ps) = ap rows c.deref.ensures.value ∙ c.in_ok-graph.ensures in
    let marks : (q : ℕ) → slice_index_or c.deref-in-loop-number.result.now q false ≡ spec.procedure_lets_in (slice_get (map procedure_of ps) q) = λ q.
    ap (λ (l : List Bool). slice_index_or l q false) (c.deref-in-loop-number.ensures.value ∙ c.in_ok-marks.ensures) ∙ marks_are ps q in
    let last : IsTrue b ↔ spec.LetsIn (map procedure_of ps) i = subst (λ (T : Type 0). IsTrue b ↔ T) (λ j. LeadsTo i (here j) (graph j) (λ q. marks q j)) c.in_ok-lets_in_from.ensures in
    record {
      long = let size = c.in_ok-push.ensures.len in let long = was.long in search rules;
      exact = subst (λ (l : List Bool). (p : ℕ) → p < i + 1 → IsMarked l p ↔ spec.LetsIn (map procedure_of ps) p) (sym c.in_ok-push.ensures.items)
          (marked_more (spec.LetsIn (map procedure_of ps)) c.loop-number.reaching.items b i was.long was.exact last);
    }

pub returns : goal.returns
returns c =
    let ps = c.args.procedures.now in
    let was = c.loop-number.invariant in
    let past = c.loop-number-test.false in
    let size = length-map ps procedure_of in
    marked_all (spec.LetsIn (map procedure_of ps)) c.loop-number.reaching.items c.loop-number.number was.long was.exact
    (λ p h. let within = there spec.serves_interrupt refl (map procedure_of ps) p h.0 in omega (arith, within, size, past))
