-- Where a turn cuts the timetable: of rising turns, those before it, those at it and those after it.
use Rattle.std.proofs.lemmas.Bool.{cases_lt}
use Rattle.std.proofs.Common.{◌≡◌, ◌≢◌, ◌∙◌, ◌<◌, ◌≤◌, ◌-◌, ℕ, zero, suc, true, false, List, [], ◌∷◌, length, take, drop, ap, sym, refl, slice_index, arith, nat_eq, inl, inr}
use Rattle.std.specs.List.Sorted.{IsNonDecreasingBy}
use Rattle.board.specs.Timetable.{due_at}
use Rattle.std.proofs.lemmas.List.{get_or-drop, length-drop}
use Rattle.std.proofs.Common.{◌+◌}

-- turns that differ do not count
pub due_after : {A : Type 0} (t : ℕ) (ns : List ℕ) (es : List A) (a : ℕ) → ((i : ℕ) → i < a → i < length ns → slice_index ns i ≢ t) → length es ≡ length ns
    → due_at t ns es ≡ due_at t (drop a ns) (drop a es)
unfolding due_at
due_after {A = A} t ns es zero h p = refl
due_after {A = A} t [] [] (suc a) h p = refl
due_after {A = A} t [] (e ∷ es) (suc a) h p = cc
due_after {A = A} t (n ∷ ns) [] (suc a) h p = cc
due_after {A = A} t (n ∷ ns) (e ∷ es) (suc a) h p =
    let differs : n ≢ t = h 0 (omega arith) (omega arith) in
    let no : nat_eq n t ≡ false = search (differs, arith) in
    rw no (due_after {A = A} t ns es a (λ i lt len. h (suc i) (omega arith) (omega arith)) (omega arith))

-- the front of turns that are t, where no other is
pub due_front : {A : Type 0} (t : ℕ) (ns : List ℕ) (es : List A) (k : ℕ) → ((i : ℕ) → i < k → i < length ns → slice_index ns i ≡ t)
    → ((i : ℕ) → k ≤ i → i < length ns → slice_index ns i ≢ t) → length es ≡ length ns → due_at t ns es ≡ take k es
unfolding due_at
due_front {A = A} t [] [] zero h q p = refl
due_front {A = A} t [] [] (suc k) h q p = refl
due_front {A = A} t [] (e ∷ es) k h q p = cc
due_front {A = A} t (n ∷ ns) [] k h q p = cc
due_front {A = A} t (n ∷ ns) (e ∷ es) zero h q p =
    let differs : n ≢ t = q 0 (omega arith) (omega arith) in
    let no : nat_eq n t ≡ false = search (differs, arith) in
    rw no (due_front {A = A} t ns es zero (λ i lt len. absurd (omega arith)) (λ i le len. q (suc i) (omega arith) (omega arith)) (omega arith))
due_front {A = A} t (n ∷ ns) (e ∷ es) (suc k) h q p =
    let same : n ≡ t = h 0 (omega arith) (omega arith) in
    let yes : nat_eq n t ≡ true = search (same, arith) in
    rw yes (ap (λ (l : List A). e ∷ l) (due_front {A = A} t ns es k (λ i lt len. h (suc i) (omega arith) (omega arith)) (λ i le len. q (suc i) (omega arith) (omega arith)) (omega arith)))

-- where no turn is t
pub due_none : {A : Type 0} (t : ℕ) (ns : List ℕ) (es : List A) → ((i : ℕ) → i < length ns → slice_index ns i ≢ t) → length es ≡ length ns → due_at t ns es ≡ []
due_none {A = A} t ns es h p = due_front {A = A} t ns es zero (λ i lt len. absurd (omega arith)) (λ i le len. h i len) p

-- between two partition points of rising turns stand those that are t
pub due_between : {A : Type 0} (t : ℕ) (ns : List ℕ) (es : List A) (a b : ℕ) → a ≤ b → length es ≡ length ns
    → ((i : ℕ) → i < a → i < length ns → slice_index ns i < t) → ((i : ℕ) → a ≤ i → i < length ns → t ≤ slice_index ns i)
    → ((i : ℕ) → i < b → i < length ns → slice_index ns i ≤ t) → ((i : ℕ) → b ≤ i → i < length ns → t < slice_index ns i)
    → due_at t ns es ≡ take (b - a) (drop a es)
due_between {A = A} t ns es a b le p below from to past =
    due_after {A = A} t ns es a (λ i lt len e. let x = below i lt len in omega arith) p
    ∙ due_front {A = A} t (drop a ns) (drop a es) (b - a)
    (λ i lt len. let at : slice_index (drop a ns) i ≡ slice_index ns (a + i) = get_or-drop a ns i 0 in
    let n = length-drop a ns in
    let x = from (a + i) (omega arith) (omega arith) in let y = to (a + i) (omega arith) (omega arith) in omega arith)
    (λ i ge len e. let at : slice_index (drop a ns) i ≡ slice_index ns (a + i) = get_or-drop a ns i 0 in
    let n = length-drop a ns in
    let x = past (a + i) (omega arith) (omega arith) in omega arith)
    (length-drop a es ∙ ap (λ (n : ℕ). n - a) p ∙ sym (length-drop a ns))

-- between a turn and the next one of rising turns stands none
pub gap : (ns : List ℕ) (next turn t i : ℕ) → IsNonDecreasingBy (λ n. n) ns → ((j : ℕ) → j < next → j < length ns → slice_index ns j ≤ turn) → turn < t → t < slice_index ns next → i < length ns → slice_index ns i ≢ t
gap ns next turn t i sorted below lt before len same =
    elim (cases_lt i next) [
      | inl lower ↦ let x = below i lower len in absurd (omega arith)
      | inr upper ↦ let x = sorted next i 0 upper len in absurd (omega arith)
    ]

pub no_gap : (ns : List ℕ) (next turn t i : ℕ) → ((j : ℕ) → j < next → j < length ns → slice_index ns j ≤ turn) → turn < t → length ns ≤ next → i < length ns → slice_index ns i ≢ t
no_gap ns next turn t i below lt all len same = let x = below i (omega arith) len in absurd (omega arith)
