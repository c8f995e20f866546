-- Where there is no fault of an interrupt procedure, none of them lets interrupts in or is misused.
use Rattle.std.proofs.Common.{◌≡◌, ℕ, zero, suc, ◌+◌, ◌<◌, ◌++◌, arith, append_assoc, Bool, true, false, List, [], ◌∷◌, length, slice_get, Option, None, inl, inr, refl, sym, ap, ◌∙◌, subst, true≢false}
use Rattle.word86.specs.declared.number.Number.{Number}
use Rattle.word86.specs.declared.number.Number.TheVariants.{E405, E406}
use Rattle.plm_decl.specs.declared.names.Names.{Names}
use Rattle.plm_decl.specs.declared.found.Found.{Found}
use Rattle.plm_decl.specs.Names.{ProcedureR}
use Rattle.plm_type.specs.Programs.{declared_procedures}
use Rattle.plm_type.specs.Interrupts.{AreInterruptFaults, LetsIn, IsMisused, serves_interrupt, has_interface, is_for_interrupt, fault_if, faults_from}

-- ---- lists without a fault

pub none_of_both : (fs gs : List Found) → fs ++ gs ≡ [] → (fs ≡ []) × (gs ≡ [])
none_of_both [] gs e = (refl, e)
none_of_both (f ∷ fs) gs e = absurd (true≢false (ap (λ (l : List Found). elim l [ [] ↦ false | g ∷ hs ↦ true ]) e))

no_fault_if : (b : Bool) (n : Number) (p : ProcedureR) (others : List Found) → [] ≡ fault_if b n p ++ others → b ≡ false
no_fault_if false n p others e = refl
no_fault_if true n p others e = absurd (true≢false (ap (λ (l : List Found). elim l [ [] ↦ true | f ∷ fs ↦ false ]) e))

behind_no_fault : (b : Bool) (n : Number) (p : ProcedureR) (others : List Found) → [] ≡ fault_if b n p ++ others → [] ≡ others
behind_no_fault false n p others e = e
behind_no_fault true n p others e = absurd (true≢false (ap (λ (l : List Found). elim l [ [] ↦ true | f ∷ fs ↦ false ]) e))

-- the tests are false of each procedure from this number on
none_at : (l m : ℕ → Bool) (k : ℕ) (ps : List ProcedureR) → [] ≡ faults_from l m k ps → (i : ℕ) → i < length ps → (l (k + i) ≡ false) × (m (k + i) ≡ false)
none_at l m k [] e i h = absurd (omega (arith, h))
none_at l m k (p ∷ ps) e zero h =
    let both = append_assoc (fault_if (l k) E405 p) (fault_if (m k) E406 p) (faults_from l m (k + 1) ps) in
    let first = no_fault_if (l k) E405 p (fault_if (m k) E406 p ++ faults_from l m (k + 1) ps) (e ∙ both) in
    let second = no_fault_if (m k) E406 p (faults_from l m (k + 1) ps) (behind_no_fault (l k) E405 p (fault_if (m k) E406 p ++ faults_from l m (k + 1) ps) (e ∙ both)) in
    let here : k ≡ k + 0 = omega arith in
    (subst (λ (n : ℕ). l n ≡ false) here first, subst (λ (n : ℕ). m n ≡ false) here second)
none_at l m k (p ∷ ps) e (suc i) h =
    let both = append_assoc (fault_if (l k) E405 p) (fault_if (m k) E406 p) (faults_from l m (k + 1) ps) in
    let left = behind_no_fault (m k) E406 p (faults_from l m (k + 1) ps) (behind_no_fault (l k) E405 p (fault_if (m k) E406 p ++ faults_from l m (k + 1) ps) (e ∙ both)) in
    let next : k + 1 + i ≡ k + suc i = omega arith in
    let rest = none_at l m (k + 1) ps left i (omega (arith, h)) in
    (subst (λ (n : ℕ). l n ≡ false) next rest.0, subst (λ (n : ℕ). m n ≡ false) next rest.1)

-- what holds of a procedure holds of none past the last
pub there : (f : Option ProcedureR → Bool) → f None ≡ false → (ps : List ProcedureR) (p : ℕ) → f (slice_get ps p) ≡ true → p < length ps
there f n [] p h = absurd (true≢false (sym h ∙ n))
there f n (q ∷ ps) zero h = omega arith
there f n (q ∷ ps) (suc p) h = let e = there f n ps p h in omega (arith, e)

-- ---- a program without such faults

pub lets_nothing_in : (names : Names) → AreInterruptFaults names [] → (p : ℕ) → ¬ LetsIn (declared_procedures names) p
lets_nothing_in names none p h =
    let ps = declared_procedures names in
    let at = none_at none.lets_in none.is_misused 0 ps none.each p (there serves_interrupt refl ps p h.0) in
    let here : 0 + p ≡ p = omega arith in
    true≢false (sym ((none.reaching p).1 h) ∙ subst (λ (n : ℕ). none.lets_in n ≡ false) here at.0)

pub misused_there : (names : Names) (p : ℕ) → IsMisused names p → p < length (declared_procedures names)
misused_there names p (inl h) = there has_interface refl (declared_procedures names) p h
misused_there names p (inr h) = there is_for_interrupt refl (declared_procedures names) p h.0

pub none_misused : (names : Names) → AreInterruptFaults names [] → (p : ℕ) → ¬ IsMisused names p
none_misused names none p h =
    let ps = declared_procedures names in
    let at = none_at none.lets_in none.is_misused 0 ps none.each p (misused_there names p h) in
    let here : 0 + p ≡ p = omega arith in
    true≢false (sym ((none.misused p).1 h) ∙ subst (λ (n : ℕ). none.is_misused n ≡ false) here at.1)
