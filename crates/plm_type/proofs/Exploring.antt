-- What the search knows, and that it finds all.
use Rattle.std.proofs.lemmas.Bool.{cases_lt}
use Rattle.std.proofs.Common.{◌≡◌, ℕ, zero, suc, ◌<◌, ◌≤◌, List, [], ◌∷◌, ◌++◌, Bool, false, true≢false, ◌⊎◌, inl, inr, length, slice_get, take, ◌-◌, Contains, sym, ap, subst, ◌∙◌, arith, ◌↔◌}
use Rattle.std.proofs.Math.ListN.{replicate}
use Rattle.std.proofs.lemmas.Option.{slice_get_past}
use Rattle.std.proofs.lemmas.List.Elements.{Contains-push, Contains-push_cases}
use Rattle.plm_type.specs.Reach.{Graph, row_of, LeadsBy, Leads, IsOnCycle}
use Rattle.plm_type.specs.Inner.Reach.{IsMarked, Marks}
use Rattle.plm_type.proofs.Marking.{contains_more}

pub record Explored (g : Graph) (first : List ℕ) (marks : List Bool) (work : List ℕ) : Type 0 where
  pub long : length marks ≡ length g
  pub begun : (k : ℕ) → k < length g → Contains first k → IsMarked marks k
  pub sound : (k : ℕ) → IsMarked marks k → Leads g first k
  pub waits : (k : ℕ) → Contains work k → IsMarked marks k
  pub closed : (a : ℕ) → IsMarked marks a → Contains work a ⊎ ((b : ℕ) → b < length g → Contains (row_of (slice_get g a)) b → IsMarked marks b)

pub leads_on : (g : Graph) (n : ℕ) (first : List ℕ) (p q : ℕ) → LeadsBy g n first p → Contains (row_of (slice_get g p)) q → LeadsBy g (suc n) first q
leads_on g zero first p q c r = (p, c, r)
leads_on g (suc n) first p q c r = (c.0, c.1, leads_on g n (row_of (slice_get g c.0)) p q c.2 r)

leads_none : (g : Graph) (n q : ℕ) → LeadsBy g n [] q → ⊥
leads_none g zero q c = omega (arith, c.1)
leads_none g (suc n) q c = let h = c.1 in omega (arith, h.1)

pub none_false : (n k : ℕ) → IsMarked (replicate n false) k → ⊥
none_false zero k h = true≢false (sym h)
none_false (suc n) zero h = true≢false (sym h)
none_false (suc n) (suc k) h = none_false n k h

pub explored_first : (g : Graph) (first : List ℕ) (n : ℕ) (marks : List Bool) (work : List ℕ) → length (replicate n false) ≡ length g
    → Marks (replicate n false) marks [] work first → Explored g first marks work
explored_first g first n marks work long s = record {
  long = s.long ∙ long;
  begun = λ k h c. s.marked k (subst (λ m. k < m) (sym long) h) c;
  sound = λ k m. elim (s.only k m) [ inl o ↦ absurd (none_false n k o) | inr c ↦ (0, c.0) ];
  waits = λ k c. elim (s.work k c) [ inl o ↦ absurd (omega (arith, o.1)) | inr m ↦ m ];
  closed = λ a m. elim (s.only a m) [ inl o ↦ absurd (none_false n a o) | inr c ↦ inl c.1 ];
}

pub explored_more : (g : Graph) (first : List ℕ) (m n : List Bool) (w v : List ℕ) (p : ℕ) → Explored g first m (w ++ p ∷ []) → Marks m n w v (row_of (slice_get g p)) → Explored g first n v
explored_more g first m n w v p s t = record {
  long = t.long ∙ s.long;
  begun = λ k h c. t.kept k (s.begun k h c);
  sound = λ k x. elim (t.only k x) [
    | inl o ↦ s.sound k o
    | inr c ↦ let r = s.sound p (s.waits p (Contains-push w p)) in (suc r.0, leads_on g r.0 first p k r.1 c.0)
  ];
  waits = λ k c. elim (t.work k c) [ inl o ↦ t.kept k (s.waits k (contains_more w p k o)) | inr m ↦ m ];
  closed = λ a x. elim (t.only a x) [
    | inl o ↦ elim (s.closed a o) [
      | inl c ↦ elim (Contains-push_cases w p a c) [
        | inl c ↦ inl (t.waiting a c)
        | inr e ↦ inr (λ b h calls. t.marked b (subst (λ l. b < l) (sym s.long) h) (subst (λ x. Contains (row_of (slice_get g x)) b) (sym e) calls))
      ]
      | inr f ↦ inr (λ b h calls. t.kept b (f b h calls))
    ]
    | inr c ↦ inl c.1
  ];
}

complete : (g : Graph) (first : List ℕ) (marks : List Bool) → Explored g first marks [] → (n : ℕ) (called : List ℕ) → ((k : ℕ) → k < length g → Contains called k → IsMarked marks k)
    → (q : ℕ) → q < length g → LeadsBy g n called q → IsMarked marks q
complete g first marks s zero called h q within c = h q within c
complete g first marks s (suc n) called h q within c =
    elim (cases_lt c.0 (length g)) [
      | inl l ↦ elim (s.closed c.0 (h c.0 l c.1)) [
        | inl o ↦ absurd (omega (arith, o.1))
        | inr f ↦ complete g first marks s n (row_of (slice_get g c.0)) f q within c.2
      ]
      | inr l ↦ absurd (leads_none g n q (subst (λ row. LeadsBy g n (row_of row) q) (slice_get_past g c.0 l) c.2))
    ]

pub explored_all : (g : Graph) (first : List ℕ) (marks : List Bool) → Explored g first marks [] → (k : ℕ) → k < length g → IsMarked marks k ↔ Leads g first k
explored_all g first marks s k h = (s.sound k, λ r. complete g first marks s r.0 first s.begun k h r.1)

pub emptied : (n : ℕ) (w v : List ℕ) → n ≡ 0 → v ≡ take (n - 1) w → w ≡ v ++ [] → w ≡ []
emptied n w v none rest all = all ∙ ap (λ x. x ++ []) (rest ∙ ap (λ k. take (k - 1) w) none)

-- past the last procedure nothing reaches itself
pub none_past : (g : Graph) (q : ℕ) → length g ≤ q → ¬ IsOnCycle g q
none_past g q past c = leads_none g c.0 q (subst (λ row. LeadsBy g c.0 (row_of row) q) (slice_get_past g q past) c.1)

pub none_until : (g : Graph) (n : ℕ) → length g ≡ n → ((q : ℕ) → q < n → ¬ IsOnCycle g q) → (q : ℕ) → ¬ IsOnCycle g q
none_until g n long h q = elim (cases_lt q n) [ inl l ↦ h q l | inr l ↦ none_past g q (subst (λ m. m ≤ q) (sym long) l) ]
