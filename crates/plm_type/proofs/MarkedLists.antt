-- A list of marks, made one after the other.
use Rattle.std.proofs.Common.{◌≡◌, ℕ, zero, suc, ◌+◌, ◌<◌, inl, inr, List, [], ◌∷◌, ◌++◌, Bool, true, false, length, map, slice_get, slice_index_or, Some, get_or, IsTrue, arith, refl, sym, ap, subst, ◌∙◌, ◌↔◌}
use Rattle.std.proofs.lemmas.Bool.{cases_lt}
use Rattle.plm_type.specs.Inner.Reach.{IsMarked}
use Rattle.plm_type.proofs.Ordering.{marked_within}

mark_before : (marks : List Bool) (b : Bool) (p : ℕ) → p < length marks → slice_index_or (marks ++ b ∷ []) p false ≡ slice_index_or marks p false
mark_before [] b p h = absurd (omega (arith, h))
mark_before (m ∷ ms) b zero h = refl
mark_before (m ∷ ms) b (suc p) h = mark_before ms b p (omega (arith, h))

mark_last : (marks : List Bool) (b : Bool) → slice_index_or (marks ++ b ∷ []) (length marks) false ≡ b
mark_last [] b = refl
mark_last (m ∷ ms) b = mark_last ms b

pub marked_more : (P : ℕ → Type 0) (marks : List Bool) (b : Bool) (n : ℕ) → length marks ≡ n
    → ((p : ℕ) → p < n → IsMarked marks p ↔ P p) → (IsTrue b ↔ P n) → (p : ℕ) → p < n + 1 → IsMarked (marks ++ b ∷ []) p ↔ P p
marked_more P marks b n long exact last p h = elim (cases_lt p n) [
  | inl less ↦ subst (λ (m : Bool). (m ≡ true) ↔ P p) (sym (mark_before marks b p (subst (λ k. p < k) (sym long) less))) (exact p less)
  | inr most ↦
      let same : n ≡ p = omega (arith, h, most) in
      subst (λ (q : ℕ). IsMarked (marks ++ b ∷ []) q ↔ P q) same
      (subst (λ (m : Bool). (m ≡ true) ↔ P n) (sym (ap (λ (k : ℕ). slice_index_or (marks ++ b ∷ []) k false) (sym long) ∙ mark_last marks b)) last)
]

pub marked_all : (P : ℕ → Type 0) (marks : List Bool) (n : ℕ) → length marks ≡ n → ((p : ℕ) → p < n → IsMarked marks p ↔ P p) → ((p : ℕ) → P p → p < n) → (p : ℕ) → IsMarked marks p ↔ P p
marked_all P marks n long exact within p =
    (λ m. (exact p (subst (λ k. p < k) long (marked_within marks p m))).0 m, λ h. (exact p (within p h)).1 h)

-- an element of a list of plain values of others
pub at_map : {A B : Type 0} (f : A → B) (xs : List A) (i : ℕ) (x : A) → i < length xs → x ≡ get_or xs i x → Some (f x) ≡ slice_get (map f xs) i
at_map f [] i x h e = absurd (omega (arith, h))
at_map f (y ∷ ys) zero x h e = ap (λ z. Some (f z)) e
at_map f (y ∷ ys) (suc i) x h e = at_map f ys i x (omega (arith, h)) e
