use Rattle.std.proofs.Common.{rules, ◌≡◌, ℕ, ◌+◌, ◌<◌, ◌≤◌, ◌⊎◌, inl, inr, List, Bool, true, false, length, map, slice_get, slice_index_or, get_or, Option, Some, IsTrue, arith, sym, ap, subst, ◌∙◌, ◌↔◌}
use Rattle.std.proofs.lemmas.List.{length-map}
use Rattle.plm_decl.specs.declared.names.Procedure.{Procedure}
use Rattle.plm_decl.specs.Names.{ProcedureR, procedure_of}
use Rattle.plm_type.specs.Inner.Reach.{IsMarked}
use Rattle.plm_type.specs.Interrupts as spec
use Rattle.plm_type.proofs.Faultless.{misused_there}
use Rattle.plm_type.proofs.MarkedLists.{marked_more, marked_all, at_map}
use Rattle.plm_type.proofs.interrupts.misused.Goals as goal

-- it has an interface, or is for an interrupt and called
abbrev Misused : Option ProcedureR → Type 0 → Type 0
Misused p called = (spec.has_interface p ≡ true) ⊎ ((spec.is_for_interrupt p ≡ true) × called)

-- what is said of a mark is said of what it marks
misused_by : (p : Option ProcedureR) (marked called : Type 0) → (marked ↔ called) → Misused p marked ↔ Misused p called
misused_by p marked called same = (λ h. elim h [ inl own ↦ inl own | inr by ↦ inr (by.0, same.0 by.1) ], λ h. elim h [ inl own ↦ inl own | inr by ↦ inr (by.0, same.1 by.1) ])

through : {A B C : Type 0} → (A ↔ B) → (B ↔ C) → A ↔ C
through f g = (λ a. g.0 (f.0 a), λ c. f.1 (g.1 c))

pub loop-number-preserved : goal.loop-number-preserved
loop-number-preserved c =
    let names = c.args.names.now in
    let ps = names.procedures.items in
    let was = c.loop-number.invariant in
    let i = c.loop-number.number in
    let x = c.procedure-item.result in
    let b = c.is_misused.result in
    let same : c.deref-procedure-items.result.now ≡ ps = c.deref-procedure-items.ensures.value in
    let less : i < length ps = subst (λ (l : List Procedure). i < length l) same c.loop-number-test.true in
    let here : Some (procedure_of x) ≡ slice_get (map procedure_of ps) i = at_map procedure_of ps i x less (c.procedure-item.is ∙ ap (λ (l : List Procedure). get_or l i x) same) in
    let mark : slice_index_or c.in_ok-are_called.are_called.items i false ≡ c.is_marked.result =
    sym (c.is_marked.ensures ∙ ap (λ (l : List Bool). slice_index_or l i false) c.deref.ensures.value) in
    let marked : IsTrue c.is_marked.result ↔ spec.IsCalled names i = subst (λ (m : Bool). (m ≡ true) ↔ spec.IsCalled names i) mark (c.in_ok-are_called.ensures i less) in
    let last : IsTrue b ↔ spec.IsMisused names i =
    subst (λ (p : Option ProcedureR). IsTrue b ↔ Misused p (spec.IsCalled names i)) here (through c.is_misused.ensures (misused_by (Some (procedure_of x)) (IsTrue c.is_marked.result) (spec.IsCalled names i) marked)) in
    record {
      long = let size = c.in_ok-push.ensures.len in let long = was.long in search rules;
      exact = subst (λ (l : List Bool). (p : ℕ) → p < i + 1 → IsMarked l p ↔ spec.IsMisused names p) (sym c.in_ok-push.ensures.items)
          (marked_more (spec.IsMisused names) c.loop-number.marks.items b i was.long was.exact last);
    }

pub returns : goal.returns
returns c =
    let names = c.args.names.now in
    let ps = names.procedures.items in
    let was = c.loop-number.invariant in
    let past : length ps ≤ c.loop-number.number = subst (λ (l : List Procedure). length l ≤ c.loop-number.number) c.deref-procedure-items.ensures.value c.loop-number-test.false in
    let size = length-map ps procedure_of in
    marked_all (spec.IsMisused names) c.loop-number.marks.items c.loop-number.number was.long was.exact
    (λ p h. let within = misused_there names p h in omega (arith, within, size, past))
