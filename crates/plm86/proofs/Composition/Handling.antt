-- What serves a vector is a handler, and saves what it can change.
use Rattle.std.proofs.Common.{◌≡◌, ℕ, Bool, true, List, [], ◌∷◌, Option, Some, None, slice_get, get_or, refl, sym, subst}
use Rattle.std.specs.Prelude.{position}
use Rattle.std.proofs.lemmas.Bool.{true≢false}
use Rattle.std.proofs.lemmas.Option.{none-some, slice_get-get_or}
use Rattle.std.proofs.lemmas.List.Quantifiers.{position-Some}
use Rattle.icode.specs.declared.code.Procedure as declared
use Rattle.icode.specs.declared.code.Routine.{Routine}
use Rattle.icode.specs.declared.code.Routine.TheVariants.{Procedure, Unserved}
use Rattle.icode.specs.declared.code.Code.{Code}
use Rattle.icode.specs.declared.registers.Registers.{Registers}
use Rattle.icode.specs.Code.{code_of, procedure_or_none, serving}
use Rattle.icode.specs.Vectors.{is_number}
use Rattle.icode.specs.Counted.{IsChanged, HasVector, IsHandler}
use Rattle.select.specs.Saved.{UnservedChangesNone}
use Rattle.select.specs.Selection.{AreSavedBy}

first_with : (test : declared.Procedure → Bool) (ps : List declared.Procedure) (k : ℕ) → position test ps ≡ Some k → (p : declared.Procedure) × (slice_get ps k ≡ Some p) × (test p ≡ true)
first_with test [] k e = absurd (none-some k e)
first_with test (x ∷ xs) k e =
    let at = position-Some test (x ∷ xs) k x e in
    (get_or (x ∷ xs) k x, slice_get-get_or (x ∷ xs) k x at.0, at.1)

numbered : (o : Option ℕ) (v : ℕ) → is_number o v ≡ true → (n : ℕ) × (o ≡ Some n)
numbered (Some n) v e = (n, refl)
numbered None v e = absurd (true≢false (sym e))

module _ (c : Code) where
  handles : (v q : ℕ) → position (λ p. is_number p.vector v) c.procedures.items ≡ Some q → IsHandler c (Procedure q)
  handles v q e =
      let p = first_with (λ p. is_number p.vector v) c.procedures.items q e in
      subst HasVector (sym p.1) (numbered p.0.vector v p.2)

  module _ (saves : Routine → Registers) (saved : AreSavedBy c saves) (unserved : UnservedChangesNone) where
    saved_in : (v : ℕ) (o : Option ℕ) → position (λ p. is_number p.vector v) c.procedures.items ≡ o → IsChanged (code_of c) (procedure_or_none o) (saves (procedure_or_none o))
    saved_in v (Some q) e = saved.interrupts q (handles v q e)
    saved_in v None e = subst (IsChanged (code_of c) Unserved) (sym saved.unserved) (unserved c)

    pub saved_for : (v : ℕ) → IsChanged (code_of c) (serving c v) (saves (serving c v))
    saved_for v = saved_in v (position (λ p. is_number p.vector v) c.procedures.items) refl
