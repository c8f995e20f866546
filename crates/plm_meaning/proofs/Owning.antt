-- The object that holds the bytes of an access is the owner of the first.
use Rattle.std.proofs.Common.{◌≡◌, ◌≢◌, ℕ, zero, suc, ◌+◌, ◌-◌, ◌<◌, ◌≤◌, nat_le, Bool, true, false, cond, List, [], ◌∷◌, Some, None, refl, sym, ap, ◌∙◌, subst, length, slice_index, arith, inl, inr}
use Rattle.std.proofs.lemmas.Bool.{leb-true, cases_lt, cases_eq, and_parts, cases_Bool}
use Rattle.std.proofs.lemmas.List.{get_or_past}
use Rattle.word86.specs.Access.{In}
use Rattle.word86.specs.Place.{covers, held}
use Rattle.plm_decl.specs.Placement.{Has, IsApart}
use Rattle.plm_meaning.specs.Inner.Owners.{OwnTheirs, AreOwners}

none_held : (i : ℕ) (os ss : List ℕ) (a n : ℕ) → ((j : ℕ) → j < length os → j < length ss → covers (slice_index os j) (slice_index ss j) a n ≡ false) → held i os ss a n ≡ None
none_held i [] ss a n h = refl
none_held i (o ∷ os) [] a n h = refl
none_held i (o ∷ os) (s ∷ ss) a n h =
    ap (λ (t : Bool). cond t (Some (In i (a - o))) (held (suc i) os ss a n)) (h 0 (omega arith) (omega arith))
    ∙ none_held (suc i) os ss a n (λ j below within. h (suc j) (omega (arith, below)) (omega (arith, within)))

held_by : (k i : ℕ) (os ss : List ℕ) (a n : ℕ) → k < length os → k < length ss → ((j : ℕ) → j < k → covers (slice_index os j) (slice_index ss j) a n ≡ false) → covers (slice_index os k) (slice_index ss k) a n ≡ true
    → held i os ss a n ≡ Some (In (i + k) (a - slice_index os k))
held_by k i [] ss a n below within h e = absurd (omega (arith, below))
held_by k i (o ∷ os) [] a n below within h e = absurd (omega (arith, within))
held_by zero i (o ∷ os) (s ∷ ss) a n below within h e =
    let here : i ≡ i + 0 = omega arith in
    ap (λ (t : Bool). cond t (Some (In i (a - o))) (held (suc i) os ss a n)) e ∙ ap (λ (j : ℕ). Some (In j (a - o))) here
held_by (suc k) i (o ∷ os) (s ∷ ss) a n below within h e =
    let there : suc i + k ≡ i + suc k = omega arith in
    ap (λ (t : Bool). cond t (Some (In i (a - o))) (held (suc i) os ss a n)) (h 0 (omega arith))
    ∙ held_by k (suc i) os ss a n (omega (arith, below)) (omega (arith, within)) (λ j lt. h (suc j) (omega (arith, lt))) e
    ∙ ap (λ (j : ℕ). Some (In j (a - slice_index os k))) there

-- of bytes that it holds the first is among its own
first_is_held : (o s a n : ℕ) → 0 < n → covers o s a n ≡ true → Has o s a
first_is_held o s a n some e =
    let t = and_parts (nat_le o a) (nat_le (a + n) (o + s)) e in
    let low : o ≤ a = leb-true o a t.0 in
    let high : a + n ≤ o + s = leb-true (a + n) (o + s) t.1 in
    (low, omega (arith, high, some))

module _ (owners os ss : List ℕ) (a n : ℕ) (are : AreOwners owners os ss) (known : a < length owners) (some : 0 < n) where
  -- no other object than the owner holds the bytes
  other_not : (j : ℕ) → j < length ss → j ≢ slice_index owners a → covers (slice_index os j) (slice_index ss j) a n ≡ false
  other_not j lt other =
      elim (cases_Bool (covers (slice_index os j) (slice_index ss j) a n)) [
        | inl e ↦ absurd (other (sym (are.own j lt a known (first_is_held (slice_index os j) (slice_index ss j) a n some e))))
        | inr e ↦ e
      ]

  -- what holds a byte is an object
  is_object : (k : ℕ) → covers (slice_index os k) (slice_index ss k) a n ≡ true → k < length ss
  is_object k e =
      elim (cases_lt k (length ss)) [
        | inl lt ↦ lt
        | inr ge ↦
            let none : slice_index ss k ≡ 0 = get_or_past ss k 0 ge in
            let held = first_is_held (slice_index os k) (slice_index ss k) a n some e in
            absurd (omega (arith, held.0, held.1, none))
      ]

  pub owner_holds : (k : ℕ) → k ≡ slice_index owners a → covers (slice_index os k) (slice_index ss k) a n ≡ true → Some (In k (a - slice_index os k)) ≡ held 0 os ss a n
  owner_holds k is e =
      let lt = is_object k e in
      let here : 0 + k ≡ k = omega arith in
      sym (held_by k 0 os ss a n (omega (arith, lt, are.each)) lt (λ j below. other_not j (omega (arith, below, lt)) (λ same. absurd (omega (arith, below, same, is)))) e
      ∙ ap (λ (j : ℕ). Some (In j (a - slice_index os k))) here)

  pub nobody_holds : (k : ℕ) → k ≡ slice_index owners a → covers (slice_index os k) (slice_index ss k) a n ≡ false → None ≡ held 0 os ss a n
  nobody_holds k is e =
      sym (none_held 0 os ss a n (λ j below within.
      elim (cases_eq j k) [
        | inl same ↦ subst (λ i. covers (slice_index os i) (slice_index ss i) a n ≡ false) (sym same) e
        | inr other ↦ other_not j within (λ same. other (same ∙ sym is))
      ]))

-- the bytes of one object more
pub owned_more : (old new os ss : List ℕ) (k offset size : ℕ) → offset ≡ slice_index os k → size ≡ slice_index ss k → OwnTheirs old os ss k → length new ≡ length old → IsApart os ss k k
    → ((b : ℕ) → b < length old → Has offset size b → slice_index new b ≡ k)
    → ((b : ℕ) → ¬ Has offset size b → slice_index new b ≡ slice_index old b)
    → OwnTheirs new os ss (k + 1)
owned_more old new os ss k offset size lies has owned same apart own others j lt b below held =
    elim (cases_eq j k) [
      | inl here ↦
          let o : offset ≡ slice_index os j = lies ∙ ap (slice_index os) (sym here) in
          let s : size ≡ slice_index ss j = has ∙ ap (slice_index ss) (sym here) in
          own b (omega (arith, below, same)) (omega (arith, held.0, o), omega (arith, held.1, o, s)) ∙ sym here
      | inr other ↦
          let before : j < k = omega (arith, lt, other) in
          others b (λ h. apart j before b held (omega (arith, h.0, lies), omega (arith, h.1, lies, has))) ∙ owned j before b (omega (arith, below, same)) held
    ]
