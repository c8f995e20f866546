-- Where each procedure stands above those that it calls, none reaches itself, and their order by rank is one in which each stands
-- after those that it calls.
use Rattle.std.proofs.lemmas.Bool.{cases_lt}
use Rattle.std.proofs.Common.{◌≡◌, ℕ, zero, suc, ◌+◌, ◌<◌, ◌≤◌, List, [], ◌∷◌, ◌++◌, Bool, true, false, true≢false, cond, ◌⊎◌, inl, inr, length, nat_eq, count_by, slice_get, slice_index_or, Option, Some, None, Contains, refl, sym, ap, subst, ◌∙◌, arith, ◌↔◌}
use Rattle.std.specs.List.{range_with_len}
use Rattle.std.proofs.lemmas.Bool.Decides.{nat_tests}
use Rattle.std.proofs.lemmas.Option.{slice_get_past, slice_get_within, get_or_from_slice_get}
use Rattle.std.proofs.lemmas.List.FromFn.{length-range_with_len}
use Rattle.std.proofs.lemmas.List.Sums.{sum_by-cons}
use Rattle.std.proofs.lemmas.List.Sorted.{length_permutation, sum_by-IsPermutation}
use Rattle.plm_type.specs.Reach.{Graph, row_of, LeadsBy, Leads, IsOnCycle}
use Rattle.plm_type.specs.Inner.Reach.{AreRanks, IsMarked}
use Rattle.plm_type.specs.Order.{place_in, IsOrder}
use Rattle.plm_type.specs.Inner.Order.{IsOrdered}

led_below : (ranks : List ℕ) (g : Graph) → AreRanks ranks g → (n p q : ℕ) → LeadsBy g n (row_of (slice_get g p)) q
    → slice_index_or ranks q 0 < slice_index_or ranks p 0
led_below ranks g above zero p q called = above p q called
led_below ranks g above (suc n) p q led =
    let first = above p led.0 led.1 in
    let later = led_below ranks g above n led.0 q led.2 in
    omega (arith, first, later)

pub no_cycle : (ranks : List ℕ) (g : Graph) → AreRanks ranks g → (p : ℕ) → ¬ IsOnCycle g p
no_cycle ranks g above p cycle = let below = led_below ranks g above cycle.0 p p cycle.1 in omega (arith, below)

-- ---- what a procedure reaches counts for its rank

-- what a search from a procedure found, and the rank that it gave
pub record Ranked (g : Graph) (ranks : List ℕ) (p : ℕ) : Type 0 where
  pub marks : List Bool
  pub long : length marks ≡ length g
  pub exact : (k : ℕ) → k < length g → IsMarked marks k ↔ Leads g (row_of (slice_get g p)) k
  pub rank : slice_index_or ranks p 0 ≡ 1 + count_by (λ mark. mark) marks
  pub apart : ¬ IsOnCycle g p

one_le : (x y : Bool) → (x ≡ true → y ≡ true) → cond x 1 0 ≤ cond y 1 0
one_le true true h = omega arith
one_le true false h = absurd (true≢false (sym (h refl)))
one_le false true h = omega arith
one_le false false h = omega arith

one_less : (x y : Bool) → y ≡ true → (x ≡ true → ⊥) → cond x 1 0 < cond y 1 0
one_less true y e n = absurd (n refl)
one_less false true e n = omega arith
one_less false false e n = absurd (true≢false (sym e))

count_cons : (x : Bool) (xs : List Bool) → count_by (λ mark. mark) (x ∷ xs) ≡ cond x 1 0 + count_by (λ mark. mark) xs
count_cons x xs = sum_by-cons (λ mark. cond mark 1 0) x xs

count_le : (xs ys : List Bool) → length xs ≡ length ys → ((k : ℕ) → IsMarked xs k → IsMarked ys k) → count_by (λ mark. mark) xs ≤ count_by (λ mark. mark) ys
count_le [] ys long h = omega arith
count_le (x ∷ xs) [] long h = absurd (omega (arith, long))
count_le (x ∷ xs) (y ∷ ys) long h =
    let first = one_le x y (h 0) in
    let others = count_le xs ys (omega (arith, long)) (λ k. h (suc k)) in
    omega (arith, first, others, count_cons x xs, count_cons y ys)

count_less : (xs ys : List Bool) → length xs ≡ length ys → ((k : ℕ) → IsMarked xs k → IsMarked ys k) → (j : ℕ) → IsMarked ys j → (IsMarked xs j → ⊥)
    → count_by (λ mark. mark) xs < count_by (λ mark. mark) ys
count_less [] [] long h j m n = absurd (true≢false (sym m))
count_less [] (y ∷ ys) long h j m n = absurd (omega (arith, long))
count_less (x ∷ xs) [] long h j m n = absurd (omega (arith, long))
count_less (x ∷ xs) (y ∷ ys) long h zero m n =
    let first = one_less x y m n in
    let others = count_le xs ys (omega (arith, long)) (λ k. h (suc k)) in
    omega (arith, first, others, count_cons x xs, count_cons y ys)
count_less (x ∷ xs) (y ∷ ys) long h (suc j) m n =
    let first = one_le x y (h 0) in
    let others = count_less xs ys (omega (arith, long)) (λ k. h (suc k)) j m n in
    omega (arith, first, others, count_cons x xs, count_cons y ys)

pub marked_within : (marks : List Bool) (k : ℕ) → IsMarked marks k → k < length marks
marked_within [] k m = absurd (true≢false (sym m))
marked_within (x ∷ xs) zero m = omega arith
marked_within (x ∷ xs) (suc k) m = let h = marked_within xs k m in omega (arith, h)

rank_past : (ranks : List ℕ) (q : ℕ) → length ranks ≤ q → slice_index_or ranks q 0 ≡ 0
rank_past [] q h = refl
rank_past (l ∷ ls) zero h = absurd (omega (arith, h))
rank_past (l ∷ ls) (suc q) h = rank_past ls q (omega (arith, h))

-- what is called is reached from fewer
called_below : (g : Graph) (ranks : List ℕ) (p q : ℕ) → Ranked g ranks p → Ranked g ranks q → q < length g → Contains (row_of (slice_get g p)) q
    → slice_index_or ranks q 0 < slice_index_or ranks p 0
called_below g ranks p q a b within called =
    let on : (k : ℕ) → IsMarked b.marks k → IsMarked a.marks k = λ k m.
    let h = subst (λ n. k < n) b.long (marked_within b.marks k m) in
    let led = (b.exact k h).0 m in
    (a.exact k h).1 (suc led.0, (q, called, led.1)) in
    let less = count_less b.marks a.marks (b.long ∙ sym a.long) on q ((a.exact q within).1 (0, called)) (λ m. b.apart ((b.exact q within).0 m)) in
    omega (arith, less, a.rank, b.rank)

pub all_ranked : (g : Graph) (ranks : List ℕ) → length ranks ≡ length g → ((q : ℕ) → q < length g → Ranked g ranks q) → AreRanks ranks g
all_ranked g ranks long ranked p q called = elim (cases_lt p (length g)) [
  | inl h ↦ elim (cases_lt q (length g)) [
    | inl k ↦ called_below g ranks p q (ranked p h) (ranked q k) k called
    | inr k ↦ let none = rank_past ranks q (omega (arith, k, long)) in let one = (ranked p h).rank in omega (arith, none, one)
  ]
  | inr h ↦ let c = subst (λ row. Contains (row_of row) q) (slice_get_past g p h) called in absurd (omega (arith, c.1))
]

-- ---- one more rank

pub index_before : (ranks : List ℕ) (n q : ℕ) → q < length ranks → slice_index_or (ranks ++ n ∷ []) q 0 ≡ slice_index_or ranks q 0
index_before [] n q h = absurd (omega (arith, h))
index_before (l ∷ ls) n zero h = refl
index_before (l ∷ ls) n (suc q) h = index_before ls n q (omega (arith, h))

pub index_last : (ranks : List ℕ) (n : ℕ) → slice_index_or (ranks ++ n ∷ []) (length ranks) 0 ≡ n
index_last [] n = refl
index_last (l ∷ ls) n = index_last ls n

pub ranked_more : (g : Graph) (ranks : List ℕ) (n q : ℕ) → q < length ranks → Ranked g ranks q → Ranked g (ranks ++ n ∷ []) q
ranked_more g ranks n q h r = record { marks = r.marks; long = r.long; exact = r.exact; rank = index_before ranks n q h ∙ r.rank; apart = r.apart }

-- ---- the order by rank

same_or_not : (x p : ℕ) → ((nat_eq x p ≡ true) × (x ≡ p)) ⊎ ((nat_eq x p ≡ false) × (x ≡ p → ⊥))
same_or_not x p = by (nat_eq x p) refl
  where
    by : (t : Bool) → nat_eq x p ≡ t → ((nat_eq x p ≡ true) × (x ≡ p)) ⊎ ((nat_eq x p ≡ false) × (x ≡ p → ⊥))
    by true e = inl (e, grind (arith, nat_tests))
    by false e = inr (e, λ s. grind (arith, nat_tests))

found_first : (x : ℕ) (xs : List ℕ) (p : ℕ) → count_by (λ x. nat_eq x p) (x ∷ xs) ≡ cond (nat_eq x p) 1 0 + count_by (λ x. nat_eq x p) xs
found_first x xs p = sum_by-cons (λ x. cond (nat_eq x p) 1 0) x xs

found_here : (x : ℕ) (xs : List ℕ) (p : ℕ) → nat_eq x p ≡ true → count_by (λ x. nat_eq x p) (x ∷ xs) ≡ 1 + count_by (λ x. nat_eq x p) xs
found_here x xs p e = found_first x xs p ∙ ap (λ (b : Bool). cond b 1 0 + count_by (λ x. nat_eq x p) xs) e

not_here : (x : ℕ) (xs : List ℕ) (p : ℕ) → nat_eq x p ≡ false → count_by (λ x. nat_eq x p) (x ∷ xs) ≡ 0 + count_by (λ x. nat_eq x p) xs
not_here x xs p e = found_first x xs p ∙ ap (λ (b : Bool). cond b 1 0 + count_by (λ x. nat_eq x p) xs) e

none_before : (a n p : ℕ) → p < a → count_by (λ x. nat_eq x p) (range_with_len a n) ≡ 0
none_before a zero p h = refl
none_before a (suc n) p h =
    let others = none_before (a + 1) n p (omega (arith, h)) in
    elim (same_or_not a p) [
      | inl s ↦ absurd (omega (arith, h, s.1))
      | inr s ↦ let here = not_here a (range_with_len (a + 1) n) p s.0 in omega (arith, here, others)
    ]

one_of_each : (a n p : ℕ) → a ≤ p → p < a + n → count_by (λ x. nat_eq x p) (range_with_len a n) ≡ 1
one_of_each a zero p h k = absurd (omega (arith, h, k))
one_of_each a (suc n) p h k = elim (same_or_not a p) [
  | inl s ↦
      let here = found_here a (range_with_len (a + 1) n) p s.0 in
      let others = none_before (a + 1) n p (omega (arith, s.1)) in
      omega (arith, here, others)
  | inr s ↦
      let here = not_here a (range_with_len (a + 1) n) p s.0 in
      let later : a + 1 ≤ p = elim (cases_lt a p) [
        | inl less ↦ omega (arith, less)
        | inr more ↦ absurd (s.1 (omega (arith, h, more)))
      ] in
      let others = one_of_each (a + 1) n p later (omega (arith, k)) in
      omega (arith, here, others)
]

place_finds : (xs : List ℕ) (p : ℕ) → 1 ≤ count_by (λ x. nat_eq x p) xs → slice_get xs (place_in xs p) ≡ Some p
place_finds [] p h = absurd (omega (arith, h))
place_finds (x ∷ xs) p h =
    let at = λ (b : Bool). slice_get (x ∷ xs) (cond b 0 (suc (place_in xs p))) in
    elim (same_or_not x p) [
      | inl s ↦ ap at s.0 ∙ ap (λ (n : ℕ). Some n) s.1
      | inr s ↦ ap at s.0 ∙ place_finds xs p (let here = not_here x xs p s.0 in omega (arith, here, h))
    ]

there : (xs : List ℕ) (i p : ℕ) → slice_get xs i ≡ Some p → 1 ≤ count_by (λ x. nat_eq x p) xs
there [] i p e = absurd (let h = slice_get_within [] i p e in omega (arith, h))
there (x ∷ xs) zero p e =
    let is : x ≡ p = ap (λ (o : Option ℕ). elim o [ Some v ↦ v | None ↦ 0 ]) e in
    elim (same_or_not x p) [
      | inl s ↦ let here = found_here x xs p s.0 in omega (arith, here)
      | inr s ↦ absurd (s.1 is)
    ]
there (x ∷ xs) (suc i) p e =
    let others = there xs i p e in
    elim (same_or_not x p) [
      | inl s ↦ let here = found_here x xs p s.0 in omega (arith, here)
      | inr s ↦ let here = not_here x xs p s.0 in omega (arith, here, others)
    ]

only_place : (xs : List ℕ) (i p : ℕ) → count_by (λ x. nat_eq x p) xs ≤ 1 → slice_get xs i ≡ Some p → place_in xs p ≡ i
only_place [] i p h e = absurd (let k = slice_get_within [] i p e in omega (arith, k))
only_place (x ∷ xs) zero p h e =
    let is : x ≡ p = ap (λ (o : Option ℕ). elim o [ Some v ↦ v | None ↦ 0 ]) e in
    elim (same_or_not x p) [
      | inl s ↦ ap (λ (b : Bool). cond b 0 (suc (place_in xs p))) s.0
      | inr s ↦ absurd (s.1 is)
    ]
only_place (x ∷ xs) (suc i) p h e =
    let others = there xs i p e in
    elim (same_or_not x p) [
      | inl s ↦ absurd (let here = found_here x xs p s.0 in omega (arith, here, others, h))
      | inr s ↦ ap (λ (b : Bool). cond b 0 (suc (place_in xs p))) s.0 ∙ ap (λ (n : ℕ). suc n) (only_place xs i p (let here = not_here x xs p s.0 in omega (arith, here, h)) e)
    ]

pub range_more : (a n : ℕ) → range_with_len a (suc n) ≡ range_with_len a n ++ (a + n) ∷ []
range_more a zero = ap (λ (z : ℕ). z ∷ []) (omega arith)
range_more a (suc n) = ap (λ (zs : List ℕ). a ∷ zs) (range_more (a + 1) n ∙ ap (λ (z : ℕ). range_with_len (a + 1) n ++ z ∷ []) (omega arith))

pub range_next : (n : ℕ) → range_with_len 0 (n + 1) ≡ range_with_len 0 n ++ n ∷ []
range_next n =
    let one : n + 1 ≡ suc n = omega arith in
    let none : 0 + n ≡ n = omega arith in
    ap (range_with_len 0) one ∙ range_more 0 n ∙ ap (λ (z : ℕ). range_with_len 0 n ++ z ∷ []) none

-- those with a rank stand once, and no other
counted_once : (ranks order : List ℕ) → IsOrdered ranks order → (p : ℕ) → p < length ranks → count_by (λ x. nat_eq x p) order ≡ 1
counted_once ranks order o p h =
    sum_by-IsPermutation (λ x. cond (nat_eq x p) 1 0) (range_with_len 0 (length ranks)) order o.all ∙ one_of_each 0 (length ranks) p (omega arith) (omega (arith, h))

none_from : (a n p : ℕ) → a + n ≤ p → count_by (λ x. nat_eq x p) (range_with_len a n) ≡ 0
none_from a zero p h = refl
none_from a (suc n) p h =
    let others = none_from (a + 1) n p (omega (arith, h)) in
    elim (same_or_not a p) [
      | inl s ↦ absurd (omega (arith, h, s.1))
      | inr s ↦ let here = not_here a (range_with_len (a + 1) n) p s.0 in omega (arith, here, others)
    ]

at_most_once : (ranks order : List ℕ) → IsOrdered ranks order → (p : ℕ) → count_by (λ x. nat_eq x p) order ≤ 1
at_most_once ranks order o p = elim (cases_lt p (length ranks)) [
  | inl h ↦ let one = counted_once ranks order o p h in omega (arith, one)
  | inr h ↦
      let none = sum_by-IsPermutation (λ x. cond (nat_eq x p) 1 0) (range_with_len 0 (length ranks)) order o.all ∙ none_from 0 (length ranks) p (omega (arith, h)) in
      omega (arith, none)
]

pub order_from_ranks : (ranks order : List ℕ) (g : Graph) → length ranks ≡ length g → AreRanks ranks g → IsOrdered ranks order → IsOrder order g
order_from_ranks ranks order g long above o =
    let finds : (p : ℕ) → p < length g → slice_get order (place_in order p) ≡ Some p = λ p h.
    let one = counted_once ranks order o p (omega (arith, h, long)) in place_finds order p (omega (arith, one)) in
    record {
      only = length_permutation (range_with_len 0 (length ranks)) order o.all ∙ length-range_with_len 0 (length ranks) ∙ long;
      each = finds;
      once = λ i p e. only_place order i p (at_most_once ranks order o p) e;
      later = λ p q h k called. elim (cases_lt (place_in order q) (place_in order p)) [
        | inl before ↦ before
        | inr after ↦
            let below = above p q called in
            let rises = o.rising (place_in order p) (place_in order q) 0 after (slice_get_within order (place_in order q) q (finds q k)) in
            let here = get_or_from_slice_get order (place_in order p) p 0 (finds p h) in
            let there = get_or_from_slice_get order (place_in order q) q 0 (finds q k) in
            let moved = subst (λ (n : ℕ). slice_index_or ranks n 0 ≤ slice_index_or ranks q 0) here (subst (λ (n : ℕ). slice_index_or ranks (slice_index_or order (place_in order p) 0) 0 ≤ slice_index_or ranks n 0) there rises) in
            absurd (omega (arith, below, moved))
      ];
    }
