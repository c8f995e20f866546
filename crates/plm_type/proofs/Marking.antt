-- One more procedure is marked.
use Rattle.std.proofs.Common.{◌≡◌, ◌≢◌, ℕ, zero, suc, ◌+◌, ◌<◌, List, [], ◌∷◌, ◌++◌, Bool, true, false, true≢false, not, ◌⊎◌, inl, inr, cond, nat_eq, add-zero, length, slice_index_or, slice_set, count_by, Contains, refl, sym, ap, subst, ◌∙◌, arith, get_or-set_same, get_or-set_other, length-append}
use Rattle.std.proofs.Math.ListN.{set, length-set}
use Rattle.std.proofs.lemmas.Bool.Decides.{nat_tests}
use Rattle.std.proofs.lemmas.List.Sums.{sum_by-set}
use Rattle.std.proofs.lemmas.List.Elements.{Contains-append_left, Contains-push, Contains-push_cases}
use Rattle.plm_type.specs.Inner.Reach.{IsMarked, Marks}

pub none_marked : (m : List Bool) (w : List ℕ) → Marks m m w w []
none_marked m w = record {
  long = refl;
  kept = λ k h. h;
  marked = λ k within c. absurd (omega (arith, c.1));
  only = λ k h. inl h;
  work = λ k c. inl c;
  waiting = λ k c. c;
  left = refl;
}

pub contains_more : (xs : List ℕ) (p k : ℕ) → Contains xs k → Contains (xs ++ p ∷ []) k
contains_more xs p k c = Contains-append_left xs (p ∷ []) k c

-- it was marked already, or is no procedure
old_marked : (m0 m1 : List Bool) (w0 w1 xs : List ℕ) (p : ℕ) → Marks m0 m1 w0 w1 xs → (p < length m0 → IsMarked m1 p) → Marks m0 m1 w0 w1 (xs ++ p ∷ [])
old_marked m0 m1 w0 w1 xs p s there = record {
  long = s.long;
  kept = s.kept;
  marked = λ k within c. elim (Contains-push_cases xs p k c) [ inl h ↦ s.marked k within h | inr e ↦ subst (λ x. IsMarked m1 x) e (there (subst (λ x. x < length m0) (sym e) within)) ];
  only = λ k h. elim (s.only k h) [ inl o ↦ inl o | inr n ↦ inr (contains_more xs p k n.0, n.1) ];
  work = s.work;
  waiting = s.waiting;
  left = s.left;
}

same_or_not : (a b : ℕ) → (a ≡ b) ⊎ (a ≢ b)
same_or_not a b = by (nat_eq a b) refl
  where
    by : (t : Bool) → nat_eq a b ≡ t → (a ≡ b) ⊎ (a ≢ b)
    by true e = inl (grind (arith, nat_tests))
    by false e = inr (λ q. grind (arith, nat_tests))

counted : (m : List Bool) (p : ℕ) → p < length m → slice_index_or m p false ≡ false → count_by not (slice_set m p true) + 1 ≡ count_by not m
counted m p h e =
    ap (λ b. count_by not (slice_set m p true) + cond (not b) 1 0) (sym e)
    ∙ sum_by-set (λ b. cond (not b) 1 0) m p true false h ∙ add-zero (count_by not m)

-- it was not
new_marked : (m0 m1 : List Bool) (w0 w1 xs : List ℕ) (p : ℕ) → Marks m0 m1 w0 w1 xs → p < length m1 → slice_index_or m1 p false ≡ false
    → Marks m0 (slice_set m1 p true) w0 (w1 ++ p ∷ []) (xs ++ p ∷ [])
new_marked m0 m1 w0 w1 xs p s h e =
    let at : IsMarked (slice_set m1 p true) p = get_or-set_same m1 p true false h in
    let others : (k : ℕ) → k ≢ p → slice_index_or (slice_set m1 p true) k false ≡ slice_index_or m1 k false = λ k n. get_or-set_other m1 p k true false n in
    let keep : (k : ℕ) → IsMarked m1 k → IsMarked (slice_set m1 p true) k = λ k m. elim (same_or_not k p) [ inl q ↦ subst (λ x. IsMarked (slice_set m1 p true) x) (sym q) at | inr n ↦ others k n ∙ m ] in
    record {
      long = length-set m1 p true ∙ s.long;
      kept = λ k m. keep k (s.kept k m);
      marked = λ k within c. elim (Contains-push_cases xs p k c) [ inl c ↦ keep k (s.marked k within c) | inr q ↦ subst (λ x. IsMarked (slice_set m1 p true) x) q at ];
      only = λ k m. elim (same_or_not k p) [
        | inl q ↦ inr (subst (λ x. Contains (xs ++ p ∷ []) x) (sym q) (Contains-push xs p), subst (λ x. Contains (w1 ++ p ∷ []) x) (sym q) (Contains-push w1 p))
        | inr n ↦ elim (s.only k (sym (others k n) ∙ m)) [ inl o ↦ inl o | inr c ↦ inr (contains_more xs p k c.0, contains_more w1 p k c.1) ]
      ];
      work = λ k c. elim (Contains-push_cases w1 p k c) [
        | inl c ↦ elim (s.work k c) [ inl o ↦ inl o | inr n ↦ inr (keep k n) ]
        | inr q ↦ inr (subst (λ x. IsMarked (slice_set m1 p true) x) q at)
      ];
      waiting = λ k c. contains_more w1 p k (s.waiting k c);
      left = let n = counted m1 p h e in let l = s.left in simp (length-append) (omega (arith, n, l));
    }

-- what one call leaves
pub record Marked (before after : List Bool) (w v : List ℕ) (p : ℕ) : Type 0 where
  pub marks : after ≡ cond (slice_index_or before p true) before (slice_set before p true)
  pub work : v ≡ cond (slice_index_or before p true) w (w ++ p ∷ [])

within_from : (m : List Bool) (p : ℕ) → slice_index_or m p true ≡ false → p < length m
within_from [] p e = absurd (true≢false e)
within_from (b ∷ m) zero e = omega arith
within_from (b ∷ m) (suc p) e = let h = within_from m p e in omega arith

false_either : (m : List Bool) (p : ℕ) → slice_index_or m p true ≡ false → slice_index_or m p false ≡ false
false_either [] p e = refl
false_either (b ∷ m) zero e = e
false_either (b ∷ m) (suc p) e = false_either m p e

true_within : (m : List Bool) (p : ℕ) → slice_index_or m p true ≡ true → p < length m → IsMarked m p
true_within [] p e h = absurd (omega arith)
true_within (b ∷ m) zero e h = e
true_within (b ∷ m) (suc p) e h = true_within m p e (omega arith)

pub one_marked : (m0 m1 m2 : List Bool) (w0 w1 w2 xs : List ℕ) (p : ℕ) → Marks m0 m1 w0 w1 xs → Marked m1 m2 w1 w2 p → Marks m0 m2 w0 w2 (xs ++ p ∷ [])
one_marked m0 m1 m2 w0 w1 w2 xs p s t = by (slice_index_or m1 p true) refl
  where
    by : (b : Bool) → slice_index_or m1 p true ≡ b → Marks m0 m2 w0 w2 (xs ++ p ∷ [])
    by true e =
        let m = t.marks ∙ ap (λ b. cond b m1 (slice_set m1 p true)) e in
        let w = t.work ∙ ap (λ b. cond b w1 (w1 ++ p ∷ [])) e in
        subst (λ x. Marks m0 m2 w0 x (xs ++ p ∷ [])) (sym w)
        (subst (λ x. Marks m0 x w0 w1 (xs ++ p ∷ [])) (sym m) (old_marked m0 m1 w0 w1 xs p s (λ h. true_within m1 p e (subst (λ n. p < n) (sym s.long) h))))
    by false e =
        let m = t.marks ∙ ap (λ b. cond b m1 (slice_set m1 p true)) e in
        let w = t.work ∙ ap (λ b. cond b w1 (w1 ++ p ∷ [])) e in
        subst (λ x. Marks m0 m2 w0 x (xs ++ p ∷ [])) (sym w)
        (subst (λ x. Marks m0 x w0 (w1 ++ p ∷ []) (xs ++ p ∷ [])) (sym m) (new_marked m0 m1 w0 w1 xs p s (within_from m1 p e) (false_either m1 p e)))
